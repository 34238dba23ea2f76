use Rattle.history_model.specs.Stream.{leaf_item}
use Rattle.ex_base.proofs.Geometries.{leaf_most}
use Rattle.history_dump.proofs.LeavesPut.{put_behind}
use Rattle.ex_base.proofs.Handed.{cause_here, no_value}
use Rattle.ex_base.proofs.Results.{if_err_handed}
use Rattle.ex_base.proofs.Keeping.{keeps_refl}
use Rattle.std.proofs.Common.{◌+◌, ◌-◌, drop, subst, ap, arith, ◌≡◌, ◌≤◌, ◌∙◌, ℕ, length, take, sym}
use Rattle.std.proofs.lemmas.List.{length-take, take_at}
use Rattle.ex_base.specs.Area.{NamesLeaf}
use Rattle.ex_base.specs.Sizes.{leaf_bytes}
use Rattle.ex_base.specs.declared.geometry.Geometry.{Geometry}
use Rattle.history_dump.proofs.leaf.put_leaf.Goals as goal

pub geometry-geometry-requires : goal.geometry-geometry-requires
geometry-geometry-requires g c = record { ready = c.requires.ready }

pub leaf_into-requires-clause-ready : goal.leaf_into-requires-clause-ready
leaf_into-requires-clause-ready g c = c.requires.ready

pub returns-in_err-leaf_into-clause-item : goal.returns-in_err-leaf_into-clause-item
returns-in_err-leaf_into-clause-item g c = no_value c.from_residual.result _ c.in_err-leaf_into.field-0.0 c.from_residual.ensures.1

pub returns-in_err-leaf_into-clause-some : goal.returns-in_err-leaf_into-clause-some
returns-in_err-leaf_into-clause-some g c = no_value c.from_residual.result _ c.in_err-leaf_into.field-0.0 c.from_residual.ensures.1

pub returns-in_err-leaf_into-clause-inside : goal.returns-in_err-leaf_into-clause-inside
returns-in_err-leaf_into-clause-inside g c = no_value c.from_residual.result _ c.in_err-leaf_into.field-0.0 c.from_residual.ensures.1

pub returns-in_err-leaf_into-clause-sound : goal.returns-in_err-leaf_into-clause-sound
returns-in_err-leaf_into-clause-sound g c = if_err_handed c.from_residual.result _ c.in_err-leaf_into.field-0.0 c.from_residual.ensures.1 (λ damage told bytes is. c.in_err-leaf_into.ensures.no_damage damage)

pub returns-in_err-leaf_into-clause-kept : goal.returns-in_err-leaf_into-clause-kept
returns-in_err-leaf_into-clause-kept g c = c.in_err-leaf_into.ensures.kept

pub returns-in_err-leaf_into-clause-cause : goal.returns-in_err-leaf_into-clause-cause
returns-in_err-leaf_into-clause-cause g c = cause_here (g.V.Ground.faults c.args.volume.now) (g.V.Ground.faults c.leaf_into.new.self) c.from_residual.result c.in_err-leaf_into.field-0.0 c.from_residual.ensures.1 c.in_err-leaf_into.ensures.cause

pub returns-clause-sound : goal.returns-clause-sound
returns-clause-sound g c = tt

pub returns-clause-kept : goal.returns-clause-kept
returns-clause-kept g c = c.leaf_into.ensures.kept

pub returns-clause-cause : goal.returns-clause-cause
returns-clause-cause g c = tt

pub returns-then-not-names_leaf-clause-item : goal.returns-then-not-names_leaf-clause-item
returns-then-not-names_leaf-clause-item g c = tt

pub returns-then-not-names_leaf-clause-some : goal.returns-then-not-names_leaf-clause-some
returns-then-not-names_leaf-clause-some g c = tt

pub returns-then-not-names_leaf-clause-inside : goal.returns-then-not-names_leaf-clause-inside
returns-then-not-names_leaf-clause-inside g c = tt

pub returns-then-not-names_leaf-clause-kept : goal.returns-then-not-names_leaf-clause-kept
returns-then-not-names_leaf-clause-kept g c = keeps_refl g.V.Ground c.args.volume.now

pub overflow_add-end : goal.overflow_add-end
overflow_add-end g c = omega (arith, c.if-leaf-leaf_bytes.false, c.leaf_bytes.type_inv)

pub leaf_into-requires-clause-page : goal.leaf_into-requires-clause-page
leaf_into-requires-clause-page g c = subst (λ (x : Geometry). NamesLeaf x c.args.leaf.unit.0) c.geometry-geometry.ensures (c.names_leaf.ensures.0 c.if-not-names_leaf.false)

pub leaf_into-requires-clause-range : goal.leaf_into-requires-clause-range
leaf_into-requires-clause-range g c = omega (arith, length-take (4 + c.args.leaf.len - 4) (drop 4 c.args.out.now), c.if-leaf-leaf_bytes.false, c.leaf_bytes.ensures, ap leaf_bytes c.geometry-geometry.ensures)

pub returns-clause-some : goal.returns-clause-some
returns-clause-some g c = omega arith

pub returns-clause-inside : goal.returns-clause-inside
returns-clause-inside g c = omega (arith, c.requires.room, c.if-leaf-leaf_bytes.false, c.leaf_bytes.ensures, ap leaf_bytes c.geometry-geometry.ensures)

pub returns-clause-item : goal.returns-clause-item
returns-clause-item g c = λ told bytes is.
    let fits : 4 + c.args.leaf.len ≤ length c.args.out.now = omega (arith, c.requires.room, c.if-leaf-leaf_bytes.false, c.leaf_bytes.ensures, ap leaf_bytes c.geometry-geometry.ensures) in
    let put = put_behind c.args.out.now c.leaf_into.new.out c.args.leaf.len fits c.leaf_into.auto.out in
    let w = c.write_leaf_len.new.out in
    let unit = g.V.Ground.unit c.args.volume.now c.args.leaf.unit.0 in
    let count = sym c.leaf_into.auto.out ∙ put.read ∙ is.len in
    let read : c.leaf_into.new.out ≡ bytes = c.in_ok-leaf_into.ensures.bytes told ∙ ap (λ (k : ℕ). take k unit) count ∙ is.front in
    take_at w _ (4 + c.args.leaf.len) (c.write_leaf_len.auto.out ∙ put.len) ∙ c.write_leaf_len.ensures ∙ ap leaf_item (put.behind ∙ read)

pub write_leaf_len-requires-clause-few : goal.write_leaf_len-requires-clause-few
write_leaf_len-requires-clause-few g c =
    let fits : 4 + c.args.leaf.len ≤ length c.args.out.now = omega (arith, c.requires.room, c.if-leaf-leaf_bytes.false, c.leaf_bytes.ensures, ap leaf_bytes c.geometry-geometry.ensures) in
    let put = put_behind c.args.out.now c.leaf_into.new.out c.args.leaf.len fits c.leaf_into.auto.out in
    omega (arith, put.len, c.if-leaf-leaf_bytes.false, c.leaf_bytes.ensures, leaf_most c.geometry-geometry.result)

pub slice_bounds-write_leaf_len-end-2 : goal.slice_bounds-write_leaf_len-end-2
slice_bounds-write_leaf_len-end-2 g c =
    let fits : 4 + c.args.leaf.len ≤ length c.args.out.now = omega (arith, c.requires.room, c.if-leaf-leaf_bytes.false, c.leaf_bytes.ensures, ap leaf_bytes c.geometry-geometry.ensures) in
    let put = put_behind c.args.out.now c.leaf_into.new.out c.args.leaf.len fits c.leaf_into.auto.out in
    sym put.len

pub write_leaf_len-requires-clause-head : goal.write_leaf_len-requires-clause-head
write_leaf_len-requires-clause-head g c =
    let fits : 4 + c.args.leaf.len ≤ length c.args.out.now = omega (arith, c.requires.room, c.if-leaf-leaf_bytes.false, c.leaf_bytes.ensures, ap leaf_bytes c.geometry-geometry.ensures) in
    let put = put_behind c.args.out.now c.leaf_into.new.out c.args.leaf.len fits c.leaf_into.auto.out in
    omega (arith, put.len)
