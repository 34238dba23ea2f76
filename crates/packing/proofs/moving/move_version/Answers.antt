use Rattle.std.proofs.Common.{◌≡◌, ◌≤◌, rules, subst, sym}
use Rattle.ex_base.specs.declared.names.Place.{Place}
use Rattle.ex_base.specs.Sizes.{object_most}
use Rattle.ex_base.proofs.Results.{cause_handed, if_err_handed}
use Rattle.file_bodies.specs.Files.{HasBody}
use Rattle.object_records.specs.Reads.{large_record}
use Rattle.object_records.specs.Record.{Large}
use Rattle.versions.specs.Put.{PutsRecord}
use Rattle.versions.specs.Versions.{place_of}
use Rattle.versions.proofs.Becoming.{body_on, never_put}
use Rattle.compact.specs.Moves.{copies_of}
use Rattle.packing.proofs.Handed.{cause_here, no_value}
use Rattle.packing.proofs.Installing.{tree_installed, tree_stays}
use Rattle.packing.proofs.moving.move_version.Goals as goal

pub returns-then-eq-clause-moved : goal.returns-then-eq-clause-moved
returns-then-eq-clause-moved g c = λ told in_use index bytes has may away.
    let same : c.in_ok-made.made ≡ c.args.root.now = search rules in
    tree_stays g.V.Ground c.args.volume.now c.move_tree.new.blocks index c.args.oid.now c.args.head.now c.args.root.now c.in_ok-made.made bytes c.args.dense (copies_of c.args.moves.now) (copies_of c.move_tree.new.moves) c.in_ok-made.ensures.extends in_use has
    (c.in_ok-made.ensures.moved told may) away c.in_ok-made.ensures.size same

pub returns-in_err-put_root-clause-sound : goal.returns-in_err-put_root-clause-sound
returns-in_err-put_root-clause-sound g c = if_err_handed c.from_residual-in_err-put_root.result _ _ c.from_residual-in_err-put_root.ensures.1 (λ damage told in_use index bytes has may.
    let tree = c.in_ok-made.ensures.moved told may in
    never_put g.V.Ground c.args.volume.now c.move_tree.new.blocks index c.args.oid.now c.args.head.now (Large c.args.root.now) bytes bytes c.in_ok-made.made c.place_of-place.result c.in_ok-made.ensures.extends in_use has
    (tree.spells bytes has.spells.0, subst (λ n. n ≤ object_most) (sym c.in_ok-made.ensures.size) has.spells.1) c.place_of-place.ensures
    (c.in_err-put_root.ensures.sound damage (g.V.Ground.leads_told c.args.volume.now c.move_tree.new.blocks c.move_tree.ensures.leads told)))

pub returns-clause-moved : goal.returns-clause-moved
returns-clause-moved g c = λ told in_use index bytes has may away.
    let differ : c.in_ok-made.made ≡ c.args.root.now → ⊥ = search rules in
    let stands = body_on g.V.Ground c.args.volume.now c.move_tree.new.blocks index (place_of c.args.oid.now) has.stored.body c.in_ok-made.ensures.extends in_use has.stored.stands in
    let there = subst (λ (p : Place). HasBody g.V.Ground c.move_tree.new.blocks index p has.stored.body) (sym c.place_of-place.ensures) stands in
    let put = c.in_ok-put_root.ensures.put (g.V.Ground.leads_told c.args.volume.now c.move_tree.new.blocks c.move_tree.ensures.leads told) index has.stored.body there in
    tree_installed g.V.Ground c.args.volume.now c.move_tree.new.blocks index c.args.oid.now c.args.head.now c.args.root.now c.in_ok-made.made bytes c.args.dense (copies_of c.args.moves.now) (copies_of c.move_tree.new.moves) c.in_ok-made.ensures.extends in_use has
    (c.in_ok-made.ensures.moved told may) away c.in_ok-made.ensures.size c.put_root.new.volume
    (subst (λ (p : Place). PutsRecord g.V.Ground c.move_tree.new.blocks c.put_root.new.volume index p has.stored.body (large_record c.args.head.now c.in_ok-made.made)) c.place_of-place.ensures put) differ

pub returns-then-eq-clause-still : goal.returns-then-eq-clause-still
returns-then-eq-clause-still g c = λ same. c.in_ok-made.ensures.extends.touched

pub returns-clause-still : goal.returns-clause-still
returns-clause-still g c =
    let differ : c.in_ok-made.made ≡ c.args.root.now → ⊥ = search rules in
    λ same. absurd (differ same)

-- ---- what else is promised

pub returns-in_err-made-clause-moved : goal.returns-in_err-made-clause-moved
returns-in_err-made-clause-moved g c = no_value c.from_residual.result _ c.in_err-made.field-0.0 c.from_residual.ensures.1

pub returns-in_err-made-clause-still : goal.returns-in_err-made-clause-still
returns-in_err-made-clause-still g c = no_value c.from_residual.result _ c.in_err-made.field-0.0 c.from_residual.ensures.1

pub returns-in_err-made-clause-touches : goal.returns-in_err-made-clause-touches
returns-in_err-made-clause-touches g c = no_value c.from_residual.result _ c.in_err-made.field-0.0 c.from_residual.ensures.1

pub returns-in_err-made-clause-keeps : goal.returns-in_err-made-clause-keeps
returns-in_err-made-clause-keeps g c = c.move_tree.ensures.keeps

pub returns-in_err-made-clause-leads : goal.returns-in_err-made-clause-leads
returns-in_err-made-clause-leads g c = c.move_tree.ensures.leads

pub returns-in_err-made-clause-cause : goal.returns-in_err-made-clause-cause
returns-in_err-made-clause-cause g c = cause_here (g.V.Ground.faults c.args.volume.now) (g.V.Ground.faults c.move_tree.new.blocks) c.from_residual.result c.in_err-made.field-0.0 c.from_residual.ensures.1 c.in_err-made.ensures.cause

pub returns-then-eq-clause-sound : goal.returns-then-eq-clause-sound
returns-then-eq-clause-sound g c = tt

pub returns-then-eq-clause-keeps : goal.returns-then-eq-clause-keeps
returns-then-eq-clause-keeps g c = c.move_tree.ensures.keeps

pub returns-then-eq-clause-leads : goal.returns-then-eq-clause-leads
returns-then-eq-clause-leads g c = c.move_tree.ensures.leads

pub returns-then-eq-clause-cause : goal.returns-then-eq-clause-cause
returns-then-eq-clause-cause g c = tt

pub returns-in_err-put_root-clause-moved : goal.returns-in_err-put_root-clause-moved
returns-in_err-put_root-clause-moved g c = no_value c.from_residual-in_err-put_root.result _ c.in_err-put_root.field-0.0 c.from_residual-in_err-put_root.ensures.1

pub returns-in_err-put_root-clause-still : goal.returns-in_err-put_root-clause-still
returns-in_err-put_root-clause-still g c = no_value c.from_residual-in_err-put_root.result _ c.in_err-put_root.field-0.0 c.from_residual-in_err-put_root.ensures.1

pub returns-in_err-put_root-clause-touches : goal.returns-in_err-put_root-clause-touches
returns-in_err-put_root-clause-touches g c = no_value c.from_residual-in_err-put_root.result _ c.in_err-put_root.field-0.0 c.from_residual-in_err-put_root.ensures.1

pub returns-in_err-put_root-clause-keeps : goal.returns-in_err-put_root-clause-keeps
returns-in_err-put_root-clause-keeps g c = c.move_tree.ensures.keeps

pub returns-in_err-put_root-clause-leads : goal.returns-in_err-put_root-clause-leads
returns-in_err-put_root-clause-leads g c = g.V.Ground.leads_trans c.args.volume.now c.move_tree.new.blocks c.put_root.new.volume c.move_tree.ensures.leads c.put_root.ensures.leads

pub returns-in_err-put_root-clause-cause : goal.returns-in_err-put_root-clause-cause
returns-in_err-put_root-clause-cause g c = cause_handed (g.V.Ground.faults c.args.volume.now) (g.V.Ground.faults c.move_tree.new.blocks) (g.V.Ground.faults c.put_root.new.volume) c.from_residual-in_err-put_root.result c.in_err-put_root.field-0.0 c.from_residual-in_err-put_root.ensures.1 (g.V.Ground.leads_faults c.args.volume.now c.move_tree.new.blocks c.move_tree.ensures.leads) c.in_err-put_root.ensures.cause

pub returns-clause-sound : goal.returns-clause-sound
returns-clause-sound g c = tt

pub returns-clause-keeps : goal.returns-clause-keeps
returns-clause-keeps g c = c.move_tree.ensures.keeps

pub returns-clause-leads : goal.returns-clause-leads
returns-clause-leads g c = g.V.Ground.leads_trans c.args.volume.now c.move_tree.new.blocks c.put_root.new.volume c.move_tree.ensures.leads c.put_root.ensures.leads

pub returns-clause-cause : goal.returns-clause-cause
returns-clause-cause g c = tt
