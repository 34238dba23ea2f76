use Rattle.std.proofs.Common.{ℕ, ap, arith, ◌∙◌}
use Rattle.ex_base.specs.declared.names.Area.{Area}
use Rattle.ex_base.specs.declared.names.Area.TheVariants.{Page, Segment}
use Rattle.ex_base.proofs.Results.{if_err_handed}
use Rattle.version_tree.specs.Bodies.{derived_head, with_head}
use Rattle.version_tree.specs.Copies.{uncopied}
use Rattle.version_tree.proofs.Copying.{copied_version, derived_fits, derived_one}
use Rattle.ex_base.proofs.Handed.{no_value, not_given, cause_here, handed_after}
use Rattle.version_tree.proofs.Takings.{takes_before}
use Rattle.version_tree.proofs.branching.derive_read.Goals as goal

pub returns-clause-derived : goal.returns-clause-derived
returns-clause-derived g c = λ told index is v file.
    let told_b = g.V.Ground.leads_told c.args.volume.now c.put_copy.new.volume c.put_copy.ensures.leads told in
    let copied = c.in_ok-place.ensures.copies told index is v.has.file file v.spelled in
    let later = copied_version g.V.Ground c.args.volume.now c.put_copy.new.volume index c.in_ok-place.place (with_head (derived_head c.args.unique c.args.was.now.place) is) is copied c.args.was.now c.put_copy.ensures.leads v in
    derived_one g.V.Ground c.args.volume.now c.put_copy.new.volume c.unlink.new.volume index c.args.was.now is c.args.unique c.in_ok-place.place copied (c.in_ok-unlink.ensures.unlinked told_b copied.puts.after is later)

pub returns-clause-pages : goal.returns-clause-pages
returns-clause-pages g c = omega (arith, c.in_ok-place.ensures.pages, ap (λ (f : Area → ℕ). f Page) c.in_ok-unlink.ensures.free)

pub returns-in_err-place-clause-sound : goal.returns-in_err-place-clause-sound
returns-in_err-place-clause-sound g c = if_err_handed c.from_residual.result _ _ c.from_residual.ensures.1 (λ damage told index is v file.
    c.in_err-place.ensures.sound damage told index is v.has file v.fits v.spelled (derived_fits g.V.Ground c.args.volume.now index c.args.was.now is c.args.unique v))

pub returns-in_err-place-clause-fault : goal.returns-in_err-place-clause-fault
returns-in_err-place-clause-fault g c = if_err_handed c.from_residual.result _ _ c.from_residual.ensures.1 (λ told. c.in_err-place.ensures.fault told)

pub returns-in_err-unlink-clause-sound : goal.returns-in_err-unlink-clause-sound
returns-in_err-unlink-clause-sound g c = if_err_handed c.from_residual-in_err-unlink.result _ _ c.from_residual-in_err-unlink.ensures.1 (λ damage told index is v file.
    let told_b = g.V.Ground.leads_told c.args.volume.now c.put_copy.new.volume c.put_copy.ensures.leads told in
    let copied = c.in_ok-place.ensures.copies told index is v.has.file file v.spelled in
    c.in_err-unlink.ensures.sound damage told_b copied.puts.after is
    (copied_version g.V.Ground c.args.volume.now c.put_copy.new.volume index c.in_ok-place.place (with_head (derived_head c.args.unique c.args.was.now.place) is) is copied c.args.was.now c.put_copy.ensures.leads v))

pub returns-in_err-unlink-clause-fault : goal.returns-in_err-unlink-clause-fault
returns-in_err-unlink-clause-fault g c = if_err_handed c.from_residual-in_err-unlink.result _ _ c.from_residual-in_err-unlink.ensures.1 (λ told.
    let told_b = g.V.Ground.leads_told c.args.volume.now c.put_copy.new.volume c.put_copy.ensures.leads told in
    uncopied (c.in_err-unlink.ensures.fault told_b))

pub returns-in_err-place-clause-derived : goal.returns-in_err-place-clause-derived
returns-in_err-place-clause-derived g c = no_value c.from_residual.result _ c.in_err-place.field-0.0 c.from_residual.ensures.1

pub returns-in_err-place-clause-chosen : goal.returns-in_err-place-clause-chosen
returns-in_err-place-clause-chosen g c = no_value c.from_residual.result _ c.in_err-place.field-0.0 c.from_residual.ensures.1

pub returns-in_err-place-clause-room : goal.returns-in_err-place-clause-room
returns-in_err-place-clause-room g c = no_value c.from_residual.result _ c.in_err-place.field-0.0 c.from_residual.ensures.1

pub returns-in_err-place-clause-pages : goal.returns-in_err-place-clause-pages
returns-in_err-place-clause-pages g c = not_given c.from_residual.result _ c.in_err-place.field-0.0 c.from_residual.ensures.1

pub returns-in_err-place-clause-takes : goal.returns-in_err-place-clause-takes
returns-in_err-place-clause-takes g c = not_given c.from_residual.result _ c.in_err-place.field-0.0 c.from_residual.ensures.1

pub returns-in_err-place-clause-leaves : goal.returns-in_err-place-clause-leaves
returns-in_err-place-clause-leaves g c = not_given c.from_residual.result _ c.in_err-place.field-0.0 c.from_residual.ensures.1

pub returns-in_err-place-clause-touches : goal.returns-in_err-place-clause-touches
returns-in_err-place-clause-touches g c = not_given c.from_residual.result _ c.in_err-place.field-0.0 c.from_residual.ensures.1

pub returns-in_err-place-clause-leads : goal.returns-in_err-place-clause-leads
returns-in_err-place-clause-leads g c = c.put_copy.ensures.leads

pub returns-in_err-place-clause-cause : goal.returns-in_err-place-clause-cause
returns-in_err-place-clause-cause g c =
    cause_here (g.V.Ground.faults c.args.volume.now) (g.V.Ground.faults c.put_copy.new.volume) c.from_residual.result c.in_err-place.field-0.0
    c.from_residual.ensures.1 c.in_err-place.ensures.cause

pub returns-in_err-unlink-clause-derived : goal.returns-in_err-unlink-clause-derived
returns-in_err-unlink-clause-derived g c = no_value c.from_residual-in_err-unlink.result _ c.in_err-unlink.field-0.0 c.from_residual-in_err-unlink.ensures.1

pub returns-in_err-unlink-clause-chosen : goal.returns-in_err-unlink-clause-chosen
returns-in_err-unlink-clause-chosen g c = no_value c.from_residual-in_err-unlink.result _ c.in_err-unlink.field-0.0 c.from_residual-in_err-unlink.ensures.1

pub returns-in_err-unlink-clause-room : goal.returns-in_err-unlink-clause-room
returns-in_err-unlink-clause-room g c = no_value c.from_residual-in_err-unlink.result _ c.in_err-unlink.field-0.0 c.from_residual-in_err-unlink.ensures.1

pub returns-in_err-unlink-clause-pages : goal.returns-in_err-unlink-clause-pages
returns-in_err-unlink-clause-pages g c = not_given c.from_residual-in_err-unlink.result _ c.in_err-unlink.field-0.0 c.from_residual-in_err-unlink.ensures.1

pub returns-in_err-unlink-clause-takes : goal.returns-in_err-unlink-clause-takes
returns-in_err-unlink-clause-takes g c = not_given c.from_residual-in_err-unlink.result _ c.in_err-unlink.field-0.0 c.from_residual-in_err-unlink.ensures.1

pub returns-in_err-unlink-clause-leaves : goal.returns-in_err-unlink-clause-leaves
returns-in_err-unlink-clause-leaves g c = not_given c.from_residual-in_err-unlink.result _ c.in_err-unlink.field-0.0 c.from_residual-in_err-unlink.ensures.1

pub returns-in_err-unlink-clause-touches : goal.returns-in_err-unlink-clause-touches
returns-in_err-unlink-clause-touches g c = not_given c.from_residual-in_err-unlink.result _ c.in_err-unlink.field-0.0 c.from_residual-in_err-unlink.ensures.1

pub returns-in_err-unlink-clause-leads : goal.returns-in_err-unlink-clause-leads
returns-in_err-unlink-clause-leads g c =
    g.V.Ground.leads_trans c.args.volume.now c.put_copy.new.volume c.unlink.new.volume c.put_copy.ensures.leads c.unlink.ensures.leads

pub returns-in_err-unlink-clause-cause : goal.returns-in_err-unlink-clause-cause
returns-in_err-unlink-clause-cause g c =
    handed_after g.V.Ground c.args.volume.now c.put_copy.new.volume c.put_copy.ensures.leads c.unlink.new.volume c.from_residual-in_err-unlink.result
    c.in_err-unlink.field-0.0 c.from_residual-in_err-unlink.ensures.1 c.in_err-unlink.ensures.cause

pub returns-clause-sound : goal.returns-clause-sound
returns-clause-sound g c = tt

pub returns-clause-fault : goal.returns-clause-fault
returns-clause-fault g c = tt

pub returns-clause-leads : goal.returns-clause-leads
returns-clause-leads g c = g.V.Ground.leads_trans c.args.volume.now c.put_copy.new.volume c.unlink.new.volume c.put_copy.ensures.leads c.unlink.ensures.leads

pub returns-clause-cause : goal.returns-clause-cause
returns-clause-cause g c = tt

pub put_copy-requires-clause-ready : goal.put_copy-requires-clause-ready
put_copy-requires-clause-ready g c = c.requires.ready

pub unlink-requires : goal.unlink-requires
unlink-requires g c = g.V.Ground.leads_ready c.args.volume.now c.put_copy.new.volume c.put_copy.ensures.leads c.requires.ready

pub returns-clause-leaves : goal.returns-clause-leaves
returns-clause-leaves g c = ap (λ (f : Area → ℕ). f Segment) c.in_ok-unlink.ensures.free ∙ c.in_ok-place.ensures.leaves

pub returns-clause-takes : goal.returns-clause-takes
returns-clause-takes g c =
    takes_before g.V.Ground c.args.volume.now c.put_copy.new.volume c.unlink.new.volume c.in_ok-place.ensures.takes c.in_ok-unlink.ensures.units

pub returns-clause-touches : goal.returns-clause-touches
returns-clause-touches g c = omega (arith, c.in_ok-place.ensures.touches, c.in_ok-unlink.ensures.touches)

pub returns-clause-room : goal.returns-clause-room
returns-clause-room g c = c.in_ok-place.ensures.room

pub returns-clause-chosen : goal.returns-clause-chosen
returns-clause-chosen g c = c.in_ok-place.ensures.chosen

pub put_copy-requires-clause-free : goal.put_copy-requires-clause-free
put_copy-requires-clause-free g c = c.requires.free
