use Rattle.trees.specs.Node.{PairsOf}
use Rattle.std.proofs.lemmas.Result.{IfOk-weaker, IfErr-weaker}
use Rattle.ex_base.proofs.Handed.{no_value}
use Rattle.ex_base.proofs.Results.{if_err_handed}
use Rattle.std.proofs.Common.{◌≤◌, length, subst, sym, ℕ, List}
use Rattle.ex_base.specs.Area.{InPageArea}
use Rattle.ex_base.specs.declared.geometry.Geometry.{Geometry}
use Rattle.ex_base.proofs.Keeping.{keeps_refl}
use Rattle.history_items.specs.Gathering.{item_most}
use Rattle.history_dump.proofs.node.put_node.Goals as goal

pub returns-clause-cause : goal.returns-clause-cause
returns-clause-cause g c = c.put_pairs.ensures.cause _ _

pub geometry-geometry-requires : goal.geometry-geometry-requires
geometry-geometry-requires g c = record { ready = c.requires.ready }

pub node-requires-clause-ready : goal.node-requires-clause-ready
node-requires-clause-ready g c = c.requires.ready

pub returns-in_err-bytes-clause-item : goal.returns-in_err-bytes-clause-item
returns-in_err-bytes-clause-item g c = no_value c.from_residual.result _ c.in_err-bytes.field-0.0 c.from_residual.ensures.1

pub returns-in_err-bytes-clause-some : goal.returns-in_err-bytes-clause-some
returns-in_err-bytes-clause-some g c = no_value c.from_residual.result _ c.in_err-bytes.field-0.0 c.from_residual.ensures.1

pub returns-in_err-bytes-clause-inside : goal.returns-in_err-bytes-clause-inside
returns-in_err-bytes-clause-inside g c = no_value c.from_residual.result _ c.in_err-bytes.field-0.0 c.from_residual.ensures.1

pub returns-in_err-bytes-clause-sound : goal.returns-in_err-bytes-clause-sound
returns-in_err-bytes-clause-sound g c = if_err_handed c.from_residual.result _ c.in_err-bytes.field-0.0 c.from_residual.ensures.1 (λ damage told node is. c.in_err-bytes.ensures.no_damage damage)

pub returns-clause-some : goal.returns-clause-some
returns-clause-some g c = c.put_pairs.ensures.some

pub returns-clause-inside : goal.returns-clause-inside
returns-clause-inside g c = c.put_pairs.ensures.inside

pub returns-then-not-in_page_area-clause-item : goal.returns-then-not-in_page_area-clause-item
returns-then-not-in_page_area-clause-item g c = tt

pub returns-then-not-in_page_area-clause-some : goal.returns-then-not-in_page_area-clause-some
returns-then-not-in_page_area-clause-some g c = tt

pub returns-then-not-in_page_area-clause-inside : goal.returns-then-not-in_page_area-clause-inside
returns-then-not-in_page_area-clause-inside g c = tt

pub returns-then-not-in_page_area-clause-kept : goal.returns-then-not-in_page_area-clause-kept
returns-then-not-in_page_area-clause-kept g c = keeps_refl g.V.Ground c.args.volume.now

pub node-requires-clause-page : goal.node-requires-clause-page
node-requires-clause-page g c = subst (λ (x : Geometry). InPageArea x c.args.page.0) c.geometry-geometry.ensures (c.in_page_area.ensures.0 c.if-not-in_page_area.false)

pub returns-in_err-bytes-clause-kept : goal.returns-in_err-bytes-clause-kept
returns-in_err-bytes-clause-kept g c = c.node.follows.holds-at-none.0

pub returns-clause-kept : goal.returns-clause-kept
returns-clause-kept g c = c.node.follows.holds-at-none.0

pub put_pairs-requires : goal.put_pairs-requires
put_pairs-requires g c = record { room = subst (λ (x : Geometry). item_most x ≤ length c.args.out.now) (sym c.geometry-geometry.ensures) c.requires.room }

pub returns-clause-item : goal.returns-clause-item
returns-clause-item g c = IfOk-weaker c.put_pairs.result _ _ (λ n made told node is.
    let fan = subst (λ (x : Geometry). PairsOf x.fan (g.V.Ground.unit c.args.volume.now c.args.page.0) node.level is.pairs) (sym c.geometry-geometry.ensures) is.spelled in
    made node is.pairs (subst (λ (t : List ℕ). PairsOf c.geometry-geometry.result.fan t node.level is.pairs) (sym (c.in_ok-bytes.ensures.bytes told)) fan) is.numbered) c.put_pairs.ensures.item

pub returns-clause-sound : goal.returns-clause-sound
returns-clause-sound g c = IfErr-weaker c.put_pairs.result _ _ (λ fault never damage told node is.
    let fan = subst (λ (x : Geometry). PairsOf x.fan (g.V.Ground.unit c.args.volume.now c.args.page.0) node.level is.pairs) (sym c.geometry-geometry.ensures) is.spelled in
    never damage node is.pairs (subst (λ (t : List ℕ). PairsOf c.geometry-geometry.result.fan t node.level is.pairs) (sym (c.in_ok-bytes.ensures.bytes told)) fan) is.numbered) c.put_pairs.ensures.sound
