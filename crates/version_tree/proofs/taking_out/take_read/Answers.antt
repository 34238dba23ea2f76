use Rattle.std.proofs.Common.{ℕ, List, sym, ap, subst, arith, inl, inr, ◌∙◌}
use Rattle.ex_base.specs.declared.names.Area.{Area}
use Rattle.ex_base.specs.declared.names.Area.TheVariants.{Page, Segment}
use Rattle.ex_base.proofs.Results.{if_err_handed}
use Rattle.object_records.specs.Record.{BodyOf}
use Rattle.file_bodies.specs.Bodies.{bodies_of}
use Rattle.version_tree.proofs.Copying.{just_stand}
use Rattle.version_tree.proofs.TakenOut.{left_named, left_stays, takes}
use Rattle.ex_base.proofs.Handed.{not_given, no_value, cause_here, cause_after}
use Rattle.version_tree.proofs.Takings.{gives_before}
use Rattle.version_tree.proofs.taking_out.take_read.Goals as goal

pub returns-in_err-remove_from_file-clause-sound : goal.returns-in_err-remove_from_file-clause-sound
returns-in_err-remove_from_file-clause-sound g c = if_err_handed c.from_residual.result _ _ c.from_residual.ensures.1 (λ damage told index is m.
    c.in_err-remove_from_file.ensures.sound damage told index c.args.was.now.body.items m.read.has)

pub returns-in_err-remove_from_file-clause-fault : goal.returns-in_err-remove_from_file-clause-fault
returns-in_err-remove_from_file-clause-fault g c = if_err_handed c.from_residual.result _ _ c.from_residual.ensures.1 (λ told. inl (c.in_err-remove_from_file.ensures.fault told))

pub returns-in-Ok-clause-taken_out : goal.returns-in-Ok-clause-taken_out
returns-in-Ok-clause-taken_out g c = λ told index is m.
    let told_b = g.V.Ground.leads_told c.args.volume.now c.remove_from_file.new.pages c.remove_from_file.ensures.leads told in
    let gone = c.in_ok-remove_from_file.ensures.removes told index c.args.was.now.body.items m.read.has in
    let stays = left_stays g.V.Ground c.args.volume.now c.remove_from_file.new.pages index c.args.was.now c.args.older.now c.args.other is m gone in
    let named = c.in-Ok.ensures.named told_b gone.after (bodies_of (g.V.Ground.image c.args.volume.now) index) is.head.older c.args.was.now.place gone.edit.file m.read.link
    (just_stand g.V.Ground c.remove_from_file.new.pages gone.after c.args.older.now stays) m.left in
    takes g.V.Ground c.args.volume.now c.remove_from_file.new.pages index c.args.was.now c.args.older.now c.args.other is m gone c.name_other.new.volume named

pub returns-in-Ok-clause-gone : goal.returns-in-Ok-clause-gone
returns-in-Ok-clause-gone g c = λ is spelled. c.root_in.ensures.root is (subst (λ (b : List ℕ). BodyOf b is) (sym c.deref.ensures.value) spelled)

pub returns-in-Ok-clause-pages : goal.returns-in-Ok-clause-pages
returns-in-Ok-clause-pages g c = omega (arith, c.in_ok-remove_from_file.ensures.free, ap (λ (f : Area → ℕ). f Page) c.in-Ok.ensures.free)

pub returns-in-Err-clause-sound : goal.returns-in-Err-clause-sound
returns-in-Err-clause-sound g c = λ damage told index is m.
    let told_b = g.V.Ground.leads_told c.args.volume.now c.remove_from_file.new.pages c.remove_from_file.ensures.leads told in
    let gone = c.in_ok-remove_from_file.ensures.removes told index c.args.was.now.body.items m.read.has in
    c.in-Err.ensures.sound damage told_b gone.after
    (left_stays g.V.Ground c.args.volume.now c.remove_from_file.new.pages index c.args.was.now c.args.older.now c.args.other is m gone)
    (left_named g.V.Ground c.args.volume.now c.remove_from_file.new.pages index c.args.was.now c.args.older.now c.args.other is m gone)

pub returns-in-Err-clause-fault : goal.returns-in-Err-clause-fault
returns-in-Err-clause-fault g c = λ told.
    let told_b = g.V.Ground.leads_told c.args.volume.now c.remove_from_file.new.pages c.remove_from_file.ensures.leads told in
    inr (c.in-Err.ensures.fault told_b)

pub returns-in_err-remove_from_file-clause-taken_out : goal.returns-in_err-remove_from_file-clause-taken_out
returns-in_err-remove_from_file-clause-taken_out g c = not_given c.from_residual.result _ c.in_err-remove_from_file.field-0.0 c.from_residual.ensures.1

pub returns-in_err-remove_from_file-clause-gone : goal.returns-in_err-remove_from_file-clause-gone
returns-in_err-remove_from_file-clause-gone g c = no_value c.from_residual.result _ c.in_err-remove_from_file.field-0.0 c.from_residual.ensures.1

pub returns-in_err-remove_from_file-clause-pages : goal.returns-in_err-remove_from_file-clause-pages
returns-in_err-remove_from_file-clause-pages g c = not_given c.from_residual.result _ c.in_err-remove_from_file.field-0.0 c.from_residual.ensures.1

pub returns-in_err-remove_from_file-clause-gives : goal.returns-in_err-remove_from_file-clause-gives
returns-in_err-remove_from_file-clause-gives g c = not_given c.from_residual.result _ c.in_err-remove_from_file.field-0.0 c.from_residual.ensures.1

pub returns-in_err-remove_from_file-clause-leaves : goal.returns-in_err-remove_from_file-clause-leaves
returns-in_err-remove_from_file-clause-leaves g c = not_given c.from_residual.result _ c.in_err-remove_from_file.field-0.0 c.from_residual.ensures.1

pub returns-in_err-remove_from_file-clause-touches : goal.returns-in_err-remove_from_file-clause-touches
returns-in_err-remove_from_file-clause-touches g c = not_given c.from_residual.result _ c.in_err-remove_from_file.field-0.0 c.from_residual.ensures.1

pub returns-in_err-remove_from_file-clause-leads : goal.returns-in_err-remove_from_file-clause-leads
returns-in_err-remove_from_file-clause-leads g c = c.remove_from_file.ensures.leads

pub returns-in_err-remove_from_file-clause-cause : goal.returns-in_err-remove_from_file-clause-cause
returns-in_err-remove_from_file-clause-cause g c =
    cause_here (g.V.Ground.faults c.args.volume.now) (g.V.Ground.faults c.remove_from_file.new.pages) c.from_residual.result
    c.in_err-remove_from_file.field-0.0 c.from_residual.ensures.1 c.in_err-remove_from_file.ensures.cause

pub returns-in-Ok-clause-sound : goal.returns-in-Ok-clause-sound
returns-in-Ok-clause-sound g c = tt

pub returns-in-Ok-clause-fault : goal.returns-in-Ok-clause-fault
returns-in-Ok-clause-fault g c = tt

pub returns-in-Ok-clause-leads : goal.returns-in-Ok-clause-leads
returns-in-Ok-clause-leads g c =
    g.V.Ground.leads_trans c.args.volume.now c.remove_from_file.new.pages c.name_other.new.volume c.remove_from_file.ensures.leads c.name_other.ensures.leads

pub returns-in-Ok-clause-cause : goal.returns-in-Ok-clause-cause
returns-in-Ok-clause-cause g c = tt

pub returns-in-Err-clause-taken_out : goal.returns-in-Err-clause-taken_out
returns-in-Err-clause-taken_out g c = tt

pub returns-in-Err-clause-gone : goal.returns-in-Err-clause-gone
returns-in-Err-clause-gone g c = tt

pub returns-in-Err-clause-pages : goal.returns-in-Err-clause-pages
returns-in-Err-clause-pages g c = tt

pub returns-in-Err-clause-gives : goal.returns-in-Err-clause-gives
returns-in-Err-clause-gives g c = tt

pub returns-in-Err-clause-leaves : goal.returns-in-Err-clause-leaves
returns-in-Err-clause-leaves g c = tt

pub returns-in-Err-clause-touches : goal.returns-in-Err-clause-touches
returns-in-Err-clause-touches g c = tt

pub returns-in-Err-clause-leads : goal.returns-in-Err-clause-leads
returns-in-Err-clause-leads g c =
    g.V.Ground.leads_trans c.args.volume.now c.remove_from_file.new.pages c.name_other.new.volume c.remove_from_file.ensures.leads c.name_other.ensures.leads

pub returns-in-Err-clause-cause : goal.returns-in-Err-clause-cause
returns-in-Err-clause-cause g c =
    cause_after g.V.Ground c.args.volume.now c.remove_from_file.new.pages c.remove_from_file.ensures.leads c.name_other.new.volume c.in-Err.fault
    c.in-Err.ensures.cause

pub remove_from_file-requires : goal.remove_from_file-requires
remove_from_file-requires g c = c.requires

pub name_other-requires : goal.name_other-requires
name_other-requires g c = g.V.Ground.leads_ready c.args.volume.now c.remove_from_file.new.pages c.remove_from_file.ensures.leads c.requires

pub returns-in-Ok-clause-leaves : goal.returns-in-Ok-clause-leaves
returns-in-Ok-clause-leaves g c = ap (λ (f : Area → ℕ). f Segment) c.in-Ok.ensures.free ∙ c.in_ok-remove_from_file.ensures.leaves

pub returns-in-Ok-clause-gives : goal.returns-in-Ok-clause-gives
returns-in-Ok-clause-gives g c =
    gives_before g.V.Ground c.args.volume.now c.remove_from_file.new.pages c.name_other.new.volume c.in_ok-remove_from_file.ensures.gives
    c.in-Ok.ensures.units

pub returns-in-Ok-clause-touches : goal.returns-in-Ok-clause-touches
returns-in-Ok-clause-touches g c = omega (arith, c.in_ok-remove_from_file.ensures.touches, c.in-Ok.ensures.touches)
