use Rattle.std.proofs.Common.{sym, ap, ◌∙◌, ℕ, arith}
use Rattle.object_records.specs.Record.{Large}
use Rattle.versions.specs.Versions.{changed}
use Rattle.versions.specs.Edited.{change_of}
use Rattle.versions.proofs.Roots.{root_length}
use Rattle.versions.proofs.Standing.{version_whole, holds_of}
use Rattle.versions.specs.Damage.{record_fault, in_tree, unlike}
use Rattle.versions.proofs.Faults.{put_later}
use Rattle.versions.proofs.Becoming.{becomes_large, never_put, never_stood, used_units}
use Rattle.ex_base.proofs.Handed.{no_value, not_given, cause_here, handed_after}
use Rattle.ex_base.specs.declared.names.Area.{Area}
use Rattle.versions.proofs.growing.edit_large.Goals as goal
use Rattle.ex_base.proofs.Results.{if_err_handed}

pub returns-in_err-made-clause-sound : goal.returns-in_err-made-clause-sound
returns-in_err-made-clause-sound g c = if_err_handed c.from_residual-in_err-made.result _ _ c.from_residual-in_err-made.ensures.1 (λ damage told in_use index bytes has units. c.in_err-made.ensures.sound damage told (version_whole g.V.Ground c.args.volume.now index c.args.oid.now c.args.head.now c.args.root.now bytes (holds_of g.V.Ground c.args.volume.now index c.args.oid.now c.args.head.now (Large c.args.root.now) bytes has)))

pub returns-clause-size : goal.returns-clause-size
returns-clause-size g c = λ told index bytes has.
    let leads = c.edit_tree.ensures.leads in
    let whole = g.V.Ground.whole c.edit_tree.new.volume (g.V.Ground.leads_ready c.args.volume.now c.edit_tree.new.volume leads c.requires.ready) (g.V.Ground.leads_told c.args.volume.now c.edit_tree.new.volume leads told) in
    let used = used_units g.V.Ground c.args.volume.now index c.args.oid.now c.args.head.now c.args.root.now bytes has in
    sym (root_length (g.V.Ground.geometry c.edit_tree.new.volume) (g.V.Ground.unit c.edit_tree.new.volume) c.in_ok-made.made (changed (change_of c.args.edit.now) bytes) whole (c.in_ok-made.ensures.spells told bytes has.spells.0 used))

pub returns-clause-edited : goal.returns-clause-edited
returns-clause-edited g c = λ told in_use index bytes has.
    let used = used_units g.V.Ground c.args.volume.now index c.args.oid.now c.args.head.now c.args.root.now bytes has in
    becomes_large g.V.Ground c.args.volume.now c.edit_tree.new.volume c.put_root.new.volume index c.args.oid.now c.args.head.now (Large c.args.root.now) (change_of c.args.edit.now) bytes (changed (change_of c.args.edit.now) bytes) c.in_ok-made.made c.place_of-place.result
    c.in_ok-made.ensures.extends in_use told has (c.in_ok-made.ensures.turned told bytes has.spells.0 used) (c.in_ok-made.ensures.spells told bytes has.spells.0 used, c.in_ok-made.ensures.size) c.place_of-place.ensures c.in_ok-put_root.ensures.put (λ x. x) (c.in_ok-made.ensures.shape told bytes has.spells.0 used)

pub returns-in_err-put_root-clause-sound : goal.returns-in_err-put_root-clause-sound
returns-in_err-put_root-clause-sound g c = if_err_handed c.from_residual-in_err-put_root.result _ _ c.from_residual-in_err-put_root.ensures.1 (λ damage told in_use index bytes has units.
    let used = used_units g.V.Ground c.args.volume.now index c.args.oid.now c.args.head.now c.args.root.now bytes has in
    never_put g.V.Ground c.args.volume.now c.edit_tree.new.volume index c.args.oid.now c.args.head.now (Large c.args.root.now) bytes (changed (change_of c.args.edit.now) bytes) c.in_ok-made.made c.place_of-place.result
    c.in_ok-made.ensures.extends in_use has (c.in_ok-made.ensures.spells told bytes has.spells.0 used, c.in_ok-made.ensures.size) c.place_of-place.ensures
    (c.in_err-put_root.ensures.sound damage (g.V.Ground.leads_told c.args.volume.now c.edit_tree.new.volume c.edit_tree.ensures.leads told)))

pub returns-in_err-check-clause-fault : goal.returns-in_err-check-clause-fault
returns-in_err-check-clause-fault g c = if_err_handed c.from_residual.result _ _ c.from_residual.ensures.1 (λ told.
    unlike (λ in_use index has units. c.has_units.ensures.never c.in_err-check.ensures.fault.0 units) (c.in_err-check.ensures.fault.1 ∙ ap record_fault c.place_of-place.ensures))

pub returns-in_err-made-clause-fault : goal.returns-in_err-made-clause-fault
returns-in_err-made-clause-fault g c = if_err_handed c.from_residual-in_err-made.result _ _ c.from_residual-in_err-made.ensures.1 (λ told. in_tree (c.in_err-made.ensures.fault told))

pub returns-in_err-put_root-clause-fault : goal.returns-in_err-put_root-clause-fault
returns-in_err-put_root-clause-fault g c = if_err_handed c.from_residual-in_err-put_root.result _ _ c.from_residual-in_err-put_root.ensures.1 (λ told.
    put_later g.V.Ground c.args.volume.now c.edit_tree.new.volume c.place_of-place.result c.args.oid.now c.in_ok-made.made c.args.root.now _ _ c.edit_tree.ensures.leads c.place_of-place.ensures
    (λ never in_use index has units. never_stood g.V.Ground c.args.volume.now c.edit_tree.new.volume index c.args.oid.now _ c.place_of-place.result c.in_ok-made.ensures.extends in_use has c.place_of-place.ensures never)
    c.in_err-put_root.ensures.fault told)

pub returns-in_err-check-clause-free : goal.returns-in_err-check-clause-free
returns-in_err-check-clause-free g c = not_given c.from_residual.result _ c.in_err-check.field-0.0 c.from_residual.ensures.1

pub returns-in_err-check-clause-touches : goal.returns-in_err-check-clause-touches
returns-in_err-check-clause-touches g c = not_given c.from_residual.result _ c.in_err-check.field-0.0 c.from_residual.ensures.1

pub returns-in_err-check-clause-size : goal.returns-in_err-check-clause-size
returns-in_err-check-clause-size g c = no_value c.from_residual.result _ c.in_err-check.field-0.0 c.from_residual.ensures.1

pub returns-in_err-check-clause-edited : goal.returns-in_err-check-clause-edited
returns-in_err-check-clause-edited g c = no_value c.from_residual.result _ c.in_err-check.field-0.0 c.from_residual.ensures.1

pub returns-in_err-check-clause-sound : goal.returns-in_err-check-clause-sound
returns-in_err-check-clause-sound g c = if_err_handed c.from_residual.result _ _ c.from_residual.ensures.1 (λ damage told in_use index bytes has units. c.has_units.ensures.never c.in_err-check.ensures.fault.0 units)

pub returns-in_err-check-clause-leads : goal.returns-in_err-check-clause-leads
returns-in_err-check-clause-leads g c = g.V.Ground.leads_refl c.args.volume.now

pub returns-in_err-check-clause-cause : goal.returns-in_err-check-clause-cause
returns-in_err-check-clause-cause g c = cause_here (g.V.Ground.faults c.args.volume.now) (g.V.Ground.faults c.args.volume.now) c.from_residual.result c.in_err-check.field-0.0 c.from_residual.ensures.1 (c.in_err-check.ensures.cause (g.V.Ground.faults c.args.volume.now) (g.V.Ground.faults c.args.volume.now))

pub returns-in_err-made-clause-free : goal.returns-in_err-made-clause-free
returns-in_err-made-clause-free g c = not_given c.from_residual-in_err-made.result _ c.in_err-made.field-0.0 c.from_residual-in_err-made.ensures.1

pub returns-in_err-made-clause-touches : goal.returns-in_err-made-clause-touches
returns-in_err-made-clause-touches g c = not_given c.from_residual-in_err-made.result _ c.in_err-made.field-0.0 c.from_residual-in_err-made.ensures.1

pub returns-in_err-made-clause-size : goal.returns-in_err-made-clause-size
returns-in_err-made-clause-size g c = no_value c.from_residual-in_err-made.result _ c.in_err-made.field-0.0 c.from_residual-in_err-made.ensures.1

pub returns-in_err-made-clause-edited : goal.returns-in_err-made-clause-edited
returns-in_err-made-clause-edited g c = no_value c.from_residual-in_err-made.result _ c.in_err-made.field-0.0 c.from_residual-in_err-made.ensures.1

pub returns-in_err-made-clause-leads : goal.returns-in_err-made-clause-leads
returns-in_err-made-clause-leads g c = c.edit_tree.ensures.leads

pub returns-in_err-made-clause-cause : goal.returns-in_err-made-clause-cause
returns-in_err-made-clause-cause g c = cause_here (g.V.Ground.faults c.args.volume.now) (g.V.Ground.faults c.edit_tree.new.volume) c.from_residual-in_err-made.result c.in_err-made.field-0.0 c.from_residual-in_err-made.ensures.1 c.in_err-made.ensures.cause

pub returns-in_err-put_root-clause-free : goal.returns-in_err-put_root-clause-free
returns-in_err-put_root-clause-free g c = not_given c.from_residual-in_err-put_root.result _ c.in_err-put_root.field-0.0 c.from_residual-in_err-put_root.ensures.1

pub returns-in_err-put_root-clause-touches : goal.returns-in_err-put_root-clause-touches
returns-in_err-put_root-clause-touches g c = not_given c.from_residual-in_err-put_root.result _ c.in_err-put_root.field-0.0 c.from_residual-in_err-put_root.ensures.1

pub returns-in_err-put_root-clause-size : goal.returns-in_err-put_root-clause-size
returns-in_err-put_root-clause-size g c = no_value c.from_residual-in_err-put_root.result _ c.in_err-put_root.field-0.0 c.from_residual-in_err-put_root.ensures.1

pub returns-in_err-put_root-clause-edited : goal.returns-in_err-put_root-clause-edited
returns-in_err-put_root-clause-edited g c = no_value c.from_residual-in_err-put_root.result _ c.in_err-put_root.field-0.0 c.from_residual-in_err-put_root.ensures.1

pub returns-in_err-put_root-clause-leads : goal.returns-in_err-put_root-clause-leads
returns-in_err-put_root-clause-leads g c = g.V.Ground.leads_trans c.args.volume.now c.edit_tree.new.volume c.put_root.new.volume c.edit_tree.ensures.leads c.put_root.ensures.leads

pub returns-in_err-put_root-clause-cause : goal.returns-in_err-put_root-clause-cause
returns-in_err-put_root-clause-cause g c = handed_after g.V.Ground c.args.volume.now c.edit_tree.new.volume c.edit_tree.ensures.leads c.put_root.new.volume c.from_residual-in_err-put_root.result c.in_err-put_root.field-0.0 c.from_residual-in_err-put_root.ensures.1 c.in_err-put_root.ensures.cause

pub returns-clause-sound : goal.returns-clause-sound
returns-clause-sound g c = tt

pub returns-clause-fault : goal.returns-clause-fault
returns-clause-fault g c = tt

pub returns-clause-cause : goal.returns-clause-cause
returns-clause-cause g c = tt

pub returns-clause-leads : goal.returns-clause-leads
returns-clause-leads g c = g.V.Ground.leads_trans c.args.volume.now c.edit_tree.new.volume c.put_root.new.volume c.edit_tree.ensures.leads c.put_root.ensures.leads

pub returns-clause-touches : goal.returns-clause-touches
returns-clause-touches g c = omega (arith, c.in_ok-put_root.ensures.touches, c.in_ok-made.ensures.extends.touched)

pub put_root-requires-clause-ready : goal.put_root-requires-clause-ready
put_root-requires-clause-ready g c = g.V.Ground.leads_ready c.args.volume.now c.edit_tree.new.volume c.edit_tree.ensures.leads c.requires.ready

pub put_root-requires-clause-head : goal.put_root-requires-clause-head
put_root-requires-clause-head g c = c.requires.head

pub returns-clause-free : goal.returns-clause-free
returns-clause-free g c = λ area. omega (arith, c.in_ok-made.ensures.free area, ap (λ (f : Area → ℕ). f area) c.in_ok-put_root.ensures.free)

pub has_units-requires-clause-ready : goal.has_units-requires-clause-ready
has_units-requires-clause-ready g c = c.requires.ready

pub edit_tree-requires-clause-ready : goal.edit_tree-requires-clause-ready
edit_tree-requires-clause-ready g c = c.requires.ready

pub edit_tree-requires-clause-root : goal.edit_tree-requires-clause-root
edit_tree-requires-clause-root g c = c.requires.root

pub edit_tree-requires-clause-range : goal.edit_tree-requires-clause-range
edit_tree-requires-clause-range g c = c.requires.range

pub edit_tree-requires-clause-units : goal.edit_tree-requires-clause-units
edit_tree-requires-clause-units g c = c.has_units.ensures.yes c.in_ok-check.ensures.holds
