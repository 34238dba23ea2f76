use Rattle.std.proofs.Common.{ℕ, List, length, sym, ap, subst, ◌∙◌, arith, ◌≡◌}
use Rattle.std.proofs.lemmas.Result.{IfOk-weaker, IfErr-weaker}
use Rattle.ex_base.proofs.Results.{cause_handed, if_err_handed}
use Rattle.object_records.specs.Record.{BodyOf}
use Rattle.file_bodies.specs.Damage.{IsListedFault, IsPlacingFault}
use Rattle.file_bodies.specs.Places.{IsChosen}
use Rattle.file_bodies.specs.Placing.{start_of}
use Rattle.version_tree.specs.Bodies.{with_head}
use Rattle.version_tree.specs.Copies.{uncopied, unplaced}
use Rattle.ex_base.proofs.Handed.{no_value, not_given, cause_here}
use Rattle.version_tree.proofs.heads.put_copy.Goals as goal

pub returns-in_err-body-clause-cause : goal.returns-in_err-body-clause-cause
returns-in_err-body-clause-cause g c = cause_handed (g.V.Ground.faults c.args.volume.now) (g.V.Ground.faults c.args.volume.now) (g.V.Ground.faults c.args.volume.now) c.from_residual.result _ c.from_residual.ensures.1 (omega arith) (c.in_err-body.ensures.cause _ _)

pub returns-clause-copies : goal.returns-clause-copies
returns-clause-copies g c = IfOk-weaker c.place_body.result _ _ (λ place puts told index is file same spelled. record {
  body = c.deref.result.now;
  spelled = subst (λ (t : List ℕ). BodyOf t (with_head c.args.head.now is)) (sym c.deref.ensures.value) (c.in_ok-body.ensures.body is spelled);
  puts = puts told index file same;
}) c.place_body.ensures.anywhere

pub returns-clause-chosen : goal.returns-clause-chosen
returns-clause-chosen g c = IfOk-weaker c.place_body.result _ _ (λ place placed told index file same room.
    subst (λ (n : ℕ). IsChosen g.V.Ground c.args.volume.now index n place) (ap (λ (t : List ℕ). length t) c.deref.ensures.value ∙ c.in_ok-body.ensures.len) (placed told index file same room).chosen) c.place_body.ensures.placed

pub returns-clause-fault : goal.returns-clause-fault
returns-clause-fault g c = IfErr-weaker c.place_body.result _ _ (λ fault h told. unplaced
    (subst (λ (n : ℕ). IsListedFault (g.V.Ground.image c.args.volume.now) c.args.room.now.file_no
    (λ index. IsPlacingFault (g.V.Ground.geometry c.args.volume.now) (g.V.Ground.held c.args.volume.now) (g.V.Ground.image c.args.volume.now) index (start_of c.args.room.now n) fault) fault)
    (ap (λ (t : List ℕ). length t) c.deref.ensures.value ∙ c.in_ok-body.ensures.len) (h told))) c.place_body.ensures.fault

pub returns-in_err-body-clause-fault : goal.returns-in_err-body-clause-fault
returns-in_err-body-clause-fault g c = if_err_handed c.from_residual.result _ _ c.from_residual.ensures.1 (λ told. uncopied c.in_err-body.ensures.fault)

pub returns-in_err-check-clause-fault : goal.returns-in_err-check-clause-fault
returns-in_err-check-clause-fault g c = if_err_handed c.from_residual-in_err-check.result _ _ c.from_residual-in_err-check.ensures.1 (λ told. uncopied (λ damage. c.in_err-check.ensures.fault.1))

pub returns-in_err-body-clause-copies : goal.returns-in_err-body-clause-copies
returns-in_err-body-clause-copies g c = no_value c.from_residual.result _ c.in_err-body.field-0.0 c.from_residual.ensures.1

pub returns-in_err-body-clause-chosen : goal.returns-in_err-body-clause-chosen
returns-in_err-body-clause-chosen g c = no_value c.from_residual.result _ c.in_err-body.field-0.0 c.from_residual.ensures.1

pub returns-in_err-body-clause-room : goal.returns-in_err-body-clause-room
returns-in_err-body-clause-room g c = no_value c.from_residual.result _ c.in_err-body.field-0.0 c.from_residual.ensures.1

pub returns-in_err-body-clause-pages : goal.returns-in_err-body-clause-pages
returns-in_err-body-clause-pages g c = not_given c.from_residual.result _ c.in_err-body.field-0.0 c.from_residual.ensures.1

pub returns-in_err-body-clause-takes : goal.returns-in_err-body-clause-takes
returns-in_err-body-clause-takes g c = not_given c.from_residual.result _ c.in_err-body.field-0.0 c.from_residual.ensures.1

pub returns-in_err-body-clause-leaves : goal.returns-in_err-body-clause-leaves
returns-in_err-body-clause-leaves g c = not_given c.from_residual.result _ c.in_err-body.field-0.0 c.from_residual.ensures.1

pub returns-in_err-body-clause-touches : goal.returns-in_err-body-clause-touches
returns-in_err-body-clause-touches g c = not_given c.from_residual.result _ c.in_err-body.field-0.0 c.from_residual.ensures.1

pub returns-in_err-body-clause-leads : goal.returns-in_err-body-clause-leads
returns-in_err-body-clause-leads g c = g.V.Ground.leads_refl c.args.volume.now

pub returns-in_err-check-clause-copies : goal.returns-in_err-check-clause-copies
returns-in_err-check-clause-copies g c = no_value c.from_residual-in_err-check.result _ c.in_err-check.field-0.0 c.from_residual-in_err-check.ensures.1

pub returns-in_err-check-clause-chosen : goal.returns-in_err-check-clause-chosen
returns-in_err-check-clause-chosen g c = no_value c.from_residual-in_err-check.result _ c.in_err-check.field-0.0 c.from_residual-in_err-check.ensures.1

pub returns-in_err-check-clause-room : goal.returns-in_err-check-clause-room
returns-in_err-check-clause-room g c = no_value c.from_residual-in_err-check.result _ c.in_err-check.field-0.0 c.from_residual-in_err-check.ensures.1

pub returns-in_err-check-clause-pages : goal.returns-in_err-check-clause-pages
returns-in_err-check-clause-pages g c = not_given c.from_residual-in_err-check.result _ c.in_err-check.field-0.0 c.from_residual-in_err-check.ensures.1

pub returns-in_err-check-clause-takes : goal.returns-in_err-check-clause-takes
returns-in_err-check-clause-takes g c = not_given c.from_residual-in_err-check.result _ c.in_err-check.field-0.0 c.from_residual-in_err-check.ensures.1

pub returns-in_err-check-clause-leaves : goal.returns-in_err-check-clause-leaves
returns-in_err-check-clause-leaves g c = not_given c.from_residual-in_err-check.result _ c.in_err-check.field-0.0 c.from_residual-in_err-check.ensures.1

pub returns-in_err-check-clause-touches : goal.returns-in_err-check-clause-touches
returns-in_err-check-clause-touches g c = not_given c.from_residual-in_err-check.result _ c.in_err-check.field-0.0 c.from_residual-in_err-check.ensures.1

pub returns-in_err-check-clause-leads : goal.returns-in_err-check-clause-leads
returns-in_err-check-clause-leads g c = g.V.Ground.leads_refl c.args.volume.now

pub returns-in_err-check-clause-cause : goal.returns-in_err-check-clause-cause
returns-in_err-check-clause-cause g c =
    cause_here (g.V.Ground.faults c.args.volume.now) (g.V.Ground.faults c.args.volume.now) c.from_residual-in_err-check.result c.in_err-check.field-0.0
    c.from_residual-in_err-check.ensures.1 (c.in_err-check.ensures.cause (g.V.Ground.faults c.args.volume.now) (g.V.Ground.faults c.args.volume.now))

pub returns-clause-leads : goal.returns-clause-leads
returns-clause-leads g c = c.place_body.ensures.leads

pub returns-clause-cause : goal.returns-clause-cause
returns-clause-cause g c = c.place_body.ensures.cause

pub place_body-requires-clause-ready : goal.place_body-requires-clause-ready
place_body-requires-clause-ready g c = c.requires.ready

pub returns-clause-sound : goal.returns-clause-sound
returns-clause-sound g c = IfErr-weaker c.place_body.result _ _ (λ fault h damage told index is has file fits spelled head.
    h damage told index has.file file) c.place_body.ensures.sound

pub returns-clause-room : goal.returns-clause-room
returns-clause-room g c = IfOk-weaker c.place_body.result _ _ (λ place is.
    subst (λ (n : ℕ). c.place_body.new.room ≡ record { file_no = c.args.room.now.file_no; from = place.page; len = n }) (ap (λ (t : List ℕ). length t) c.deref.ensures.value ∙ c.in_ok-body.ensures.len) is) c.place_body.ensures.room

pub returns-clause-touches : goal.returns-clause-touches
returns-clause-touches g c = c.place_body.ensures.touches

pub returns-clause-leaves : goal.returns-clause-leaves
returns-clause-leaves g c = c.place_body.ensures.leaves

pub returns-clause-takes : goal.returns-clause-takes
returns-clause-takes g c = c.place_body.ensures.takes

pub returns-clause-unplaced : goal.returns-clause-unplaced
returns-clause-unplaced g c = c.place_body.ensures.unplaced

pub returns-clause-pages : goal.returns-clause-pages
returns-clause-pages g c = c.place_body.ensures.free

pub place_body-requires-clause-free : goal.place_body-requires-clause-free
place_body-requires-clause-free g c = c.requires.free

pub returns-in_err-body-clause-sound : goal.returns-in_err-body-clause-sound
returns-in_err-body-clause-sound g c = if_err_handed c.from_residual.result _ _ c.from_residual.ensures.1 (λ damage told index is has file fits spelled head.
    c.in_err-body.ensures.sound damage is spelled head)
