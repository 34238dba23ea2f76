use Rattle.std.proofs.Common.{◌≤◌, ◌+◌, ℕ, [], length, ap, ◌∙◌, arith}
use Rattle.ex_base.specs.declared.names.Area.{Area}
use Rattle.ex_base.specs.declared.names.Area.TheVariants.{Page, Segment}
use Rattle.ex_base.specs.Sizes.{object_most}
use Rattle.object_records.specs.Record.{Small}
use Rattle.ex_base.specs.Needs.{growth_need}
use Rattle.ex_base.proofs.Results.{if_err_handed}
use Rattle.ex_base.proofs.Geometries.{each_area}
use Rattle.versions.proofs.Puts.{first_need}
use Rattle.versions.specs.Damage.{no_tree, record_fault, in_tree, unlike}
use Rattle.versions.proofs.Faults.{put_later}
use Rattle.versions.proofs.Becoming.{becomes_large, never_put, none_spells}
use Rattle.ex_base.proofs.Handed.{no_value, not_given, cause_here, handed_after}
use Rattle.versions.proofs.growing.convert.Goals as goal

pub append-requires-clause-pages : goal.append-requires-clause-pages
append-requires-clause-pages g c = λ some.
    omega (arith, c.has_first_units.ensures.yes c.in_ok-check.ensures.holds Page, first_need (g.V.Ground.geometry c.args.volume.now) (length c.args.bytes.now) c.args.count Page c.requires.page)

pub returns-clause-edited : goal.returns-clause-edited
returns-clause-edited g c = λ told in_use index held has never change.
    let none = none_spells (g.V.Ground.geometry c.args.volume.now) (g.V.Ground.unit c.args.volume.now) in
    let size : c.in_ok-made.made.size ≤ object_most = omega (arith, c.in_ok-made.ensures.size, c.requires.limit) in
    becomes_large g.V.Ground c.args.volume.now c.append.new.blocks c.put_root.new.volume index c.args.oid.now c.args.head.now (Small held) change held c.args.bytes.now c.in_ok-made.made c.place_of-place.result
    c.in_ok-made.ensures.extends in_use told has (c.in_ok-made.ensures.units told [] none tt) (c.in_ok-made.ensures.spells told [] none tt, size) c.place_of-place.ensures c.in_ok-put_root.ensures.put never (c.in_ok-made.ensures.shape told [] none tt)

pub returns-clause-free : goal.returns-clause-free
returns-clause-free g c = each_area (λ area. g.V.Ground.free c.args.volume.now area ≤ g.V.Ground.free c.put_root.new.volume area + growth_need (g.V.Ground.geometry c.args.volume.now) c.args.count 0 area)
    (omega (arith, c.in_ok-made.ensures.pages, ap (λ (f : Area → ℕ). f Page) c.in_ok-put_root.ensures.free, first_need (g.V.Ground.geometry c.args.volume.now) (length c.args.bytes.now) c.args.count Page c.requires.page))
    (omega (arith, c.in_ok-made.ensures.leaves, ap (λ (f : Area → ℕ). f Segment) c.in_ok-put_root.ensures.free, first_need (g.V.Ground.geometry c.args.volume.now) (length c.args.bytes.now) c.args.count Segment c.requires.page))

pub returns-in_err-put_root-clause-sound : goal.returns-in_err-put_root-clause-sound
returns-in_err-put_root-clause-sound g c = if_err_handed c.from_residual-in_err-put_root.result _ _ c.from_residual-in_err-put_root.ensures.1 (λ damage told in_use index held has units.
    let none = none_spells (g.V.Ground.geometry c.args.volume.now) (g.V.Ground.unit c.args.volume.now) in
    let size : c.in_ok-made.made.size ≤ object_most = omega (arith, c.in_ok-made.ensures.size, c.requires.limit) in
    never_put g.V.Ground c.args.volume.now c.append.new.blocks index c.args.oid.now c.args.head.now (Small held) held c.args.bytes.now c.in_ok-made.made c.place_of-place.result
    c.in_ok-made.ensures.extends in_use has (c.in_ok-made.ensures.spells told [] none tt, size) c.place_of-place.ensures
    (c.in_err-put_root.ensures.sound damage (g.V.Ground.leads_told c.args.volume.now c.append.new.blocks c.append.ensures.leads told)))

pub returns-in_err-check-clause-fault : goal.returns-in_err-check-clause-fault
returns-in_err-check-clause-fault g c = if_err_handed c.from_residual.result _ _ c.from_residual.ensures.1 (λ told. unlike tt (c.in_err-check.ensures.fault.1 ∙ ap record_fault c.place_of-place.ensures))

pub returns-in_err-made-clause-fault : goal.returns-in_err-made-clause-fault
returns-in_err-made-clause-fault g c = if_err_handed c.from_residual-in_err-made.result _ _ c.from_residual-in_err-made.ensures.1 (λ told. in_tree (c.in_err-made.ensures.fault told))

pub returns-in_err-put_root-clause-fault : goal.returns-in_err-put_root-clause-fault
returns-in_err-put_root-clause-fault g c = if_err_handed c.from_residual-in_err-put_root.result _ _ c.from_residual-in_err-put_root.ensures.1 (λ told.
    put_later g.V.Ground c.args.volume.now c.append.new.blocks c.place_of-place.result c.args.oid.now c.in_ok-made.made no_tree _ _ c.append.ensures.leads c.place_of-place.ensures (λ never. tt) c.in_err-put_root.ensures.fault told)

pub returns-in_err-check-clause-free : goal.returns-in_err-check-clause-free
returns-in_err-check-clause-free g c = not_given c.from_residual.result _ c.in_err-check.field-0.0 c.from_residual.ensures.1

pub returns-in_err-check-clause-touches : goal.returns-in_err-check-clause-touches
returns-in_err-check-clause-touches g c = not_given c.from_residual.result _ c.in_err-check.field-0.0 c.from_residual.ensures.1

pub returns-in_err-check-clause-size : goal.returns-in_err-check-clause-size
returns-in_err-check-clause-size g c = no_value c.from_residual.result _ c.in_err-check.field-0.0 c.from_residual.ensures.1

pub returns-in_err-check-clause-edited : goal.returns-in_err-check-clause-edited
returns-in_err-check-clause-edited g c = no_value c.from_residual.result _ c.in_err-check.field-0.0 c.from_residual.ensures.1

pub returns-in_err-check-clause-sound : goal.returns-in_err-check-clause-sound
returns-in_err-check-clause-sound g c = if_err_handed c.from_residual.result _ _ c.from_residual.ensures.1 (λ damage told in_use index held has units. c.has_first_units.ensures.never c.in_err-check.ensures.fault.0 units)

pub returns-in_err-check-clause-leads : goal.returns-in_err-check-clause-leads
returns-in_err-check-clause-leads g c = g.V.Ground.leads_refl c.args.volume.now

pub returns-in_err-check-clause-cause : goal.returns-in_err-check-clause-cause
returns-in_err-check-clause-cause g c = cause_here (g.V.Ground.faults c.args.volume.now) (g.V.Ground.faults c.args.volume.now) c.from_residual.result c.in_err-check.field-0.0 c.from_residual.ensures.1 (c.in_err-check.ensures.cause (g.V.Ground.faults c.args.volume.now) (g.V.Ground.faults c.args.volume.now))

pub returns-in_err-made-clause-free : goal.returns-in_err-made-clause-free
returns-in_err-made-clause-free g c = not_given c.from_residual-in_err-made.result _ c.in_err-made.field-0.0 c.from_residual-in_err-made.ensures.1

pub returns-in_err-made-clause-touches : goal.returns-in_err-made-clause-touches
returns-in_err-made-clause-touches g c = not_given c.from_residual-in_err-made.result _ c.in_err-made.field-0.0 c.from_residual-in_err-made.ensures.1

pub returns-in_err-made-clause-size : goal.returns-in_err-made-clause-size
returns-in_err-made-clause-size g c = no_value c.from_residual-in_err-made.result _ c.in_err-made.field-0.0 c.from_residual-in_err-made.ensures.1

pub returns-in_err-made-clause-edited : goal.returns-in_err-made-clause-edited
returns-in_err-made-clause-edited g c = no_value c.from_residual-in_err-made.result _ c.in_err-made.field-0.0 c.from_residual-in_err-made.ensures.1

pub returns-in_err-made-clause-leads : goal.returns-in_err-made-clause-leads
returns-in_err-made-clause-leads g c = c.append.ensures.leads

pub returns-in_err-made-clause-cause : goal.returns-in_err-made-clause-cause
returns-in_err-made-clause-cause g c = cause_here (g.V.Ground.faults c.args.volume.now) (g.V.Ground.faults c.append.new.blocks) c.from_residual-in_err-made.result c.in_err-made.field-0.0 c.from_residual-in_err-made.ensures.1 c.in_err-made.ensures.cause

pub returns-in_err-put_root-clause-free : goal.returns-in_err-put_root-clause-free
returns-in_err-put_root-clause-free g c = not_given c.from_residual-in_err-put_root.result _ c.in_err-put_root.field-0.0 c.from_residual-in_err-put_root.ensures.1

pub returns-in_err-put_root-clause-touches : goal.returns-in_err-put_root-clause-touches
returns-in_err-put_root-clause-touches g c = not_given c.from_residual-in_err-put_root.result _ c.in_err-put_root.field-0.0 c.from_residual-in_err-put_root.ensures.1

pub returns-in_err-put_root-clause-size : goal.returns-in_err-put_root-clause-size
returns-in_err-put_root-clause-size g c = no_value c.from_residual-in_err-put_root.result _ c.in_err-put_root.field-0.0 c.from_residual-in_err-put_root.ensures.1

pub returns-in_err-put_root-clause-edited : goal.returns-in_err-put_root-clause-edited
returns-in_err-put_root-clause-edited g c = no_value c.from_residual-in_err-put_root.result _ c.in_err-put_root.field-0.0 c.from_residual-in_err-put_root.ensures.1

pub returns-in_err-put_root-clause-leads : goal.returns-in_err-put_root-clause-leads
returns-in_err-put_root-clause-leads g c = g.V.Ground.leads_trans c.args.volume.now c.append.new.blocks c.put_root.new.volume c.append.ensures.leads c.put_root.ensures.leads

pub returns-in_err-put_root-clause-cause : goal.returns-in_err-put_root-clause-cause
returns-in_err-put_root-clause-cause g c = handed_after g.V.Ground c.args.volume.now c.append.new.blocks c.append.ensures.leads c.put_root.new.volume c.from_residual-in_err-put_root.result c.in_err-put_root.field-0.0 c.from_residual-in_err-put_root.ensures.1 c.in_err-put_root.ensures.cause

pub returns-clause-sound : goal.returns-clause-sound
returns-clause-sound g c = tt

pub returns-clause-fault : goal.returns-clause-fault
returns-clause-fault g c = tt

pub returns-clause-cause : goal.returns-clause-cause
returns-clause-cause g c = tt

pub returns-clause-leads : goal.returns-clause-leads
returns-clause-leads g c = g.V.Ground.leads_trans c.args.volume.now c.append.new.blocks c.put_root.new.volume c.append.ensures.leads c.put_root.ensures.leads

pub returns-clause-touches : goal.returns-clause-touches
returns-clause-touches g c = omega (arith, c.in_ok-put_root.ensures.touches, c.in_ok-made.ensures.extends.touched)

pub put_root-requires-clause-ready : goal.put_root-requires-clause-ready
put_root-requires-clause-ready g c = g.V.Ground.leads_ready c.args.volume.now c.append.new.blocks c.append.ensures.leads c.requires.ready

pub put_root-requires-clause-head : goal.put_root-requires-clause-head
put_root-requires-clause-head g c = c.requires.head

pub returns-clause-size : goal.returns-clause-size
returns-clause-size g c = omega (arith, c.in_ok-made.ensures.size)

pub has_first_units-requires-clause-ready : goal.has_first_units-requires-clause-ready
has_first_units-requires-clause-ready g c = c.requires.ready

pub has_first_units-requires-clause-count : goal.has_first_units-requires-clause-count
has_first_units-requires-clause-count g c = c.requires.count

pub append-requires-clause-ready : goal.append-requires-clause-ready
append-requires-clause-ready g c = c.requires.ready

pub returns-in_err-made-clause-sound : goal.returns-in_err-made-clause-sound
returns-in_err-made-clause-sound g c = if_err_handed c.from_residual-in_err-made.result _ _ c.from_residual-in_err-made.ensures.1 (λ damage told in_use index held has units.
    c.in_err-made.ensures.sound told (record { bytes = []; spells = none_spells (g.V.Ground.geometry c.args.volume.now) (g.V.Ground.unit c.args.volume.now); avoids = tt }) damage)

pub append-requires-clause-limit : goal.append-requires-clause-limit
append-requires-clause-limit g c = omega (arith, c.requires.limit)

pub append-requires-clause-leaves : goal.append-requires-clause-leaves
append-requires-clause-leaves g c = λ some.
    omega (arith, c.has_first_units.ensures.yes c.in_ok-check.ensures.holds Segment, first_need (g.V.Ground.geometry c.args.volume.now) (length c.args.bytes.now) c.args.count Segment c.requires.page)
