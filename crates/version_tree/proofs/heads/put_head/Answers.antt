use Rattle.std.proofs.Common.{ℕ, List, sym, subst, arith, ◌∙◌, ap, length}
use Rattle.std.proofs.lemmas.Result.{on_ok_weaker, IfErr-weaker}
use Rattle.ex_base.proofs.Results.{cause_handed, if_err_handed}
use Rattle.object_records.specs.Record.{BodyOf}
use Rattle.version_tree.specs.Bodies.{with_head}
use Rattle.ex_base.proofs.Handed.{not_given, cause_here}
use Rattle.std.proofs.lemmas.Bool.{false≢true}
use Rattle.versions.proofs.Results.{ok_of}
use Rattle.version_tree.proofs.heads.put_head.Goals as goal

pub returns-in_err-body-clause-cause : goal.returns-in_err-body-clause-cause
returns-in_err-body-clause-cause g c = cause_handed (g.V.Ground.faults c.args.volume.now) (g.V.Ground.faults c.args.volume.now) (g.V.Ground.faults c.args.volume.now) c.from_residual.result _ c.from_residual.ensures.1 (omega arith) (c.in_err-body.ensures.cause _ _)

pub returns-clause-put : goal.returns-clause-put
returns-clause-put g c = on_ok_weaker c.check.result (λ holds told index is has spelled.
    let put = c.in_ok-done.ensures.put holds in
    record {
      body = c.deref.result.now;
      spelled = subst (λ (t : List ℕ). BodyOf t (with_head c.args.head.now is)) (sym c.deref.ensures.value) (c.in_ok-body.ensures.body is spelled);
      edit = c.in_ok-done.ensures.changed holds told index c.args.stored.now.body.items has;
      image = put.0;
      put = put.1;
      leads = c.change_body.ensures.leads;
    }) c.check.ensures.holds

pub returns-in_err-body-clause-put : goal.returns-in_err-body-clause-put
returns-in_err-body-clause-put g c = not_given c.from_residual.result _ c.in_err-body.field-0.0 c.from_residual.ensures.1

pub returns-in_err-body-clause-free : goal.returns-in_err-body-clause-free
returns-in_err-body-clause-free g c = not_given c.from_residual.result _ c.in_err-body.field-0.0 c.from_residual.ensures.1

pub returns-in_err-body-clause-units : goal.returns-in_err-body-clause-units
returns-in_err-body-clause-units g c = not_given c.from_residual.result _ c.in_err-body.field-0.0 c.from_residual.ensures.1

pub returns-in_err-body-clause-touches : goal.returns-in_err-body-clause-touches
returns-in_err-body-clause-touches g c = not_given c.from_residual.result _ c.in_err-body.field-0.0 c.from_residual.ensures.1

pub returns-in_err-body-clause-leads : goal.returns-in_err-body-clause-leads
returns-in_err-body-clause-leads g c = g.V.Ground.leads_refl c.args.volume.now

pub returns-in_err-done-clause-put : goal.returns-in_err-done-clause-put
returns-in_err-done-clause-put g c = not_given c.from_residual-in_err-done.result _ c.in_err-done.field-0.0 c.from_residual-in_err-done.ensures.1

pub returns-in_err-done-clause-free : goal.returns-in_err-done-clause-free
returns-in_err-done-clause-free g c = not_given c.from_residual-in_err-done.result _ c.in_err-done.field-0.0 c.from_residual-in_err-done.ensures.1

pub returns-in_err-done-clause-units : goal.returns-in_err-done-clause-units
returns-in_err-done-clause-units g c = not_given c.from_residual-in_err-done.result _ c.in_err-done.field-0.0 c.from_residual-in_err-done.ensures.1

pub returns-in_err-done-clause-touches : goal.returns-in_err-done-clause-touches
returns-in_err-done-clause-touches g c = not_given c.from_residual-in_err-done.result _ c.in_err-done.field-0.0 c.from_residual-in_err-done.ensures.1

pub returns-in_err-done-clause-leads : goal.returns-in_err-done-clause-leads
returns-in_err-done-clause-leads g c = c.change_body.ensures.leads

pub returns-in_err-done-clause-cause : goal.returns-in_err-done-clause-cause
returns-in_err-done-clause-cause g c =
    cause_here (g.V.Ground.faults c.args.volume.now) (g.V.Ground.faults c.change_body.new.pages) c.from_residual-in_err-done.result c.in_err-done.field-0.0
    c.from_residual-in_err-done.ensures.1 c.in_err-done.ensures.cause

pub returns-clause-leads : goal.returns-clause-leads
returns-clause-leads g c = c.change_body.ensures.leads

pub returns-clause-cause : goal.returns-clause-cause
returns-clause-cause g c = c.check.ensures.cause (g.V.Ground.faults c.args.volume.now) (g.V.Ground.faults c.change_body.new.pages)

pub change_body-requires-clause-ready : goal.change_body-requires-clause-ready
change_body-requires-clause-ready g c = c.requires

pub returns-in_err-done-clause-sound : goal.returns-in_err-done-clause-sound
returns-in_err-done-clause-sound g c = if_err_handed c.from_residual-in_err-done.result _ _ c.from_residual-in_err-done.ensures.1 (λ damage told index is has spelled head.
    c.in_err-done.ensures.sound damage told index c.args.stored.now.body.items has)

pub returns-in_err-body-clause-sound : goal.returns-in_err-body-clause-sound
returns-in_err-body-clause-sound g c = if_err_handed c.from_residual.result _ _ c.from_residual.ensures.1 (λ damage told index is has spelled head.
    c.in_err-body.ensures.sound damage is spelled head)

pub returns-clause-sound : goal.returns-clause-sound
returns-clause-sound g c = IfErr-weaker c.check.result _ _ (λ fault h damage told index is has spelled head.
    false≢true (sym h.0 ∙ (c.in_ok-done.ensures.fits told index c.args.stored.now.body.items has).1 (omega (arith, c.in_ok-body.ensures.len, ap (λ (t : List ℕ). length t) c.deref.ensures.value)))) c.check.ensures.fault

pub returns-clause-units : goal.returns-clause-units
returns-clause-units g c = on_ok_weaker c.check.result (λ holds.
    let put = c.in_ok-done.ensures.put holds in record { used = put.1.used; held = put.1.held }) c.check.ensures.holds

pub returns-clause-touches : goal.returns-clause-touches
returns-clause-touches g c = ok_of c.check.result _ c.in_ok-done.ensures.touches

pub returns-clause-free : goal.returns-clause-free
returns-clause-free g c = ok_of c.check.result _ c.in_ok-done.ensures.free

pub returns-clause-fault : goal.returns-clause-fault
returns-clause-fault g c = IfErr-weaker c.check.result _ _ (λ fault h told damage. h.1) c.check.ensures.fault
