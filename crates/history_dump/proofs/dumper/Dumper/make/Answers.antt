use Rattle.volume_edits.specs.Ported.{units_in}
use Rattle.history_plans.specs.Plans.{IsPlanOf, StreamPlan}
use Rattle.ex_base.specs.Sizes.{leaf_bytes}
use Rattle.std.proofs.Common.{ap, ◌∙◌, subst, sym, refl, arith}
use Rattle.ex_base.proofs.Handed.{cause_here, no_value}
use Rattle.ex_base.proofs.Results.{if_err_handed}
use Rattle.history_dump.proofs.dumper.Dumper.make.Goals as goal

pub returns-in_err-plan-clause-plans : goal.returns-in_err-plan-clause-plans
returns-in_err-plan-clause-plans g c = no_value c.from_residual.result _ c.in_err-plan.field-0.0 c.from_residual.ensures.1

pub returns-in_err-plan-clause-room : goal.returns-in_err-plan-clause-room
returns-in_err-plan-clause-room g c = no_value c.from_residual.result _ c.in_err-plan.field-0.0 c.from_residual.ensures.1

pub returns-in_err-plan-clause-sound : goal.returns-in_err-plan-clause-sound
returns-in_err-plan-clause-sound g c = if_err_handed c.from_residual.result _ c.in_err-plan.field-0.0 c.from_residual.ensures.1 c.in_err-plan.ensures.sound

pub returns-in_err-plan-clause-kept : goal.returns-in_err-plan-clause-kept
returns-in_err-plan-clause-kept g c = c.in_err-plan.ensures.kept

pub returns-in_err-plan-clause-cause : goal.returns-in_err-plan-clause-cause
returns-in_err-plan-clause-cause g c = cause_here (g.V.Ground.faults c.args.volume.now) (g.V.Ground.faults c.of.new.volume) c.from_residual.result c.in_err-plan.field-0.0 c.from_residual.ensures.1 c.in_err-plan.ensures.cause

pub returns-in_default-clause-plans : goal.returns-in_default-clause-plans
returns-in_default-clause-plans g c = tt

pub returns-in_default-clause-room : goal.returns-in_default-clause-room
returns-in_default-clause-room g c = tt

pub returns-in_default-clause-sound : goal.returns-in_default-clause-sound
returns-in_default-clause-sound g c = λ damage. absurd damage

pub returns-in_default-clause-kept : goal.returns-in_default-clause-kept
returns-in_default-clause-kept g c = c.in_ok-plan.ensures.kept

pub returns-in_default-clause-cause : goal.returns-in_default-clause-cause
returns-in_default-clause-cause g c = tt

pub returns-clause-sound : goal.returns-clause-sound
returns-clause-sound g c = tt

pub returns-clause-kept : goal.returns-clause-kept
returns-clause-kept g c = c.in_ok-plan.ensures.kept

pub returns-clause-cause : goal.returns-clause-cause
returns-clause-cause g c = tt

pub geometry-requires : goal.geometry-requires
geometry-requires g c = record { ready = g.V.Ground.leads_ready c.args.volume.now c.of.new.volume c.in_ok-plan.ensures.kept.leads c.requires }

pub returns-clause-room : goal.returns-clause-room
returns-clause-room g c =
    let same = c.geometry.ensures ∙ g.V.Ground.leads_geometry c.args.volume.now c.of.new.volume c.in_ok-plan.ensures.kept.leads in
    omega (arith, c.in-Ok.ensures.len, c.leaf_bytes.ensures, ap leaf_bytes same)

pub returns-clause-plans : goal.returns-clause-plans
returns-clause-plans g c = λ told records v shows.
    let p = c.in_ok-plan.ensures.plans told records v shows in (
      p.history,
      record {
        records = records;
        shows = shows;
        gives = record {
          on = p.on;
          plan = subst (λ (x : StreamPlan). IsPlanOf (g.V.Ground.geometry c.args.volume.now) (units_in g.V.Ground c.args.volume.now) v x p.history) (sym c.of-2.ensures.plan) p.plan_is;
          position = tt;
          inside = omega arith;
          left = refl;
        };
      },
    )
