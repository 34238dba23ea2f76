use Rattle.std.proofs.Common.{subst, sym, ◌∙◌, arith}
use Rattle.std.proofs.lemmas.Result.{IfErr-weaker, on_ok_weaker}
use Rattle.ex_base.specs.declared.geometry.Geometry.{Geometry}
use Rattle.ex_base.proofs.Results.{if_err_handed}
use Rattle.trees.specs.Roots.{IsRootFor}
use Rattle.versions.specs.Damage.{no_limits, no_place}
use Rattle.versions.proofs.Faults.{place_put}
use Rattle.versions.proofs.Puts.{root_record}
use Rattle.ex_base.proofs.Handed.{not_given, cause_here}
use Rattle.versions.proofs.Results.{ok_of}
use Rattle.std.proofs.lemmas.Bool.{false≢true}
use Rattle.versions.proofs.growing.put_root.Goals as goal

pub write_large-requires-clause-fits : goal.write_large-requires-clause-fits
write_large-requires-clause-fits g c =
    let kept = c.in_ok-check_root.ensures.kept in
    root_record c.geometry-geometry.result c.args.head.now c.args.root.now c.requires.head kept.0 kept.1

pub returns-in_err-check_root-clause-fault : goal.returns-in_err-check_root-clause-fault
returns-in_err-check_root-clause-fault g c = if_err_handed c.from_residual.result _ _ c.from_residual.ensures.1 (λ told.
    no_limits (λ for. c.in_err-check_root.ensures.never (subst (λ (y : Geometry). IsRootFor y c.args.root.now) (sym c.geometry-geometry.ensures) for)) c.in_err-check_root.ensures.fault)

pub returns-in_err-done-clause-fault : goal.returns-in_err-done-clause-fault
returns-in_err-done-clause-fault g c = if_err_handed c.from_residual-in_err-done.result _ _ c.from_residual-in_err-done.ensures.1 (λ told. place_put g.V.Ground c.args.volume.now c.args.place c.args.root.now _ (c.in_err-done.ensures.fault told) (λ damage. c.in_err-done.ensures.sound damage told))

pub returns-clause-fault : goal.returns-clause-fault
returns-clause-fault g c = IfErr-weaker c.check.result _ _ (λ fault h told. no_place (λ index was has long.
    false≢true (sym h.0 ∙ (c.in_ok-done.ensures.fits told index was has).1 (omega (arith, long)))) h.1) c.check.ensures.fault

pub returns-clause-put : goal.returns-clause-put
returns-clause-put g c = on_ok_weaker c.check.result (λ holds told index was has.
    let put = c.in_ok-done.ensures.put holds in
    record {
      body = c.write_large.new.out;
      spelled = c.write_large.ensures;
      edit = c.in_ok-done.ensures.changed holds told index was has;
      image = put.0;
      put = put.1;
      leads = c.change_body.ensures.leads;
    }) c.check.ensures.holds

pub returns-in_err-done-clause-sound : goal.returns-in_err-done-clause-sound
returns-in_err-done-clause-sound g c = if_err_handed c.from_residual-in_err-done.result _ _ c.from_residual-in_err-done.ensures.1 (λ damage told index was has long for placed. c.in_err-done.ensures.sound damage told index was has)

pub returns-in_err-check_root-clause-put : goal.returns-in_err-check_root-clause-put
returns-in_err-check_root-clause-put g c = not_given c.from_residual.result _ c.in_err-check_root.field-0.0 c.from_residual.ensures.1

pub returns-in_err-check_root-clause-free : goal.returns-in_err-check_root-clause-free
returns-in_err-check_root-clause-free g c = not_given c.from_residual.result _ c.in_err-check_root.field-0.0 c.from_residual.ensures.1

pub returns-in_err-check_root-clause-touches : goal.returns-in_err-check_root-clause-touches
returns-in_err-check_root-clause-touches g c = not_given c.from_residual.result _ c.in_err-check_root.field-0.0 c.from_residual.ensures.1

pub returns-in_err-check_root-clause-leads : goal.returns-in_err-check_root-clause-leads
returns-in_err-check_root-clause-leads g c = g.V.Ground.leads_refl c.args.volume.now

pub returns-in_err-check_root-clause-cause : goal.returns-in_err-check_root-clause-cause
returns-in_err-check_root-clause-cause g c = cause_here (g.V.Ground.faults c.args.volume.now) (g.V.Ground.faults c.args.volume.now) c.from_residual.result c.in_err-check_root.field-0.0 c.from_residual.ensures.1 (c.in_err-check_root.ensures.cause (g.V.Ground.faults c.args.volume.now) (g.V.Ground.faults c.args.volume.now))

pub returns-in_err-check_root-clause-sound : goal.returns-in_err-check_root-clause-sound
returns-in_err-check_root-clause-sound g c = if_err_handed c.from_residual.result _ _ c.from_residual.ensures.1 (λ damage told index was has long for placed. c.in_err-check_root.ensures.never (subst (λ (y : Geometry). IsRootFor y c.args.root.now) (sym c.geometry-geometry.ensures) for) placed)

pub returns-in_err-done-clause-put : goal.returns-in_err-done-clause-put
returns-in_err-done-clause-put g c = not_given c.from_residual-in_err-done.result _ c.in_err-done.field-0.0 c.from_residual-in_err-done.ensures.1

pub returns-in_err-done-clause-free : goal.returns-in_err-done-clause-free
returns-in_err-done-clause-free g c = not_given c.from_residual-in_err-done.result _ c.in_err-done.field-0.0 c.from_residual-in_err-done.ensures.1

pub returns-in_err-done-clause-touches : goal.returns-in_err-done-clause-touches
returns-in_err-done-clause-touches g c = not_given c.from_residual-in_err-done.result _ c.in_err-done.field-0.0 c.from_residual-in_err-done.ensures.1

pub returns-in_err-done-clause-leads : goal.returns-in_err-done-clause-leads
returns-in_err-done-clause-leads g c = c.change_body.ensures.leads

pub returns-in_err-done-clause-cause : goal.returns-in_err-done-clause-cause
returns-in_err-done-clause-cause g c = cause_here (g.V.Ground.faults c.args.volume.now) (g.V.Ground.faults c.change_body.new.pages) c.from_residual-in_err-done.result c.in_err-done.field-0.0 c.from_residual-in_err-done.ensures.1 c.in_err-done.ensures.cause

pub returns-clause-free : goal.returns-clause-free
returns-clause-free g c = ok_of c.check.result _ c.in_ok-done.ensures.free

pub returns-clause-touches : goal.returns-clause-touches
returns-clause-touches g c = ok_of c.check.result _ c.in_ok-done.ensures.touches

pub returns-clause-leads : goal.returns-clause-leads
returns-clause-leads g c = c.change_body.ensures.leads

pub returns-clause-cause : goal.returns-clause-cause
returns-clause-cause g c = c.check.ensures.cause (g.V.Ground.faults c.args.volume.now) (g.V.Ground.faults c.change_body.new.pages)

pub change_body-requires-clause-ready : goal.change_body-requires-clause-ready
change_body-requires-clause-ready g c = c.requires.ready

pub returns-clause-sound : goal.returns-clause-sound
returns-clause-sound g c = IfErr-weaker c.check.result _ _ (λ fault h damage told index was has long for placed.
    false≢true (sym h.0 ∙ (c.in_ok-done.ensures.fits told index was has).1 (omega (arith, long)))) c.check.ensures.fault
