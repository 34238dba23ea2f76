use Rattle.ex_base.proofs.Keeping.{keeps_refl}
use Rattle.history_plans.proofs.walk.walk_root.Goals as goal

pub returns-in_default-clause-sound : goal.returns-in_default-clause-sound
returns-in_default-clause-sound g c = tt

pub returns-in_default-clause-kept : goal.returns-in_default-clause-kept
returns-in_default-clause-kept g c = keeps_refl g.V.Ground c.args.volume.now

pub returns-in_default-clause-cause : goal.returns-in_default-clause-cause
returns-in_default-clause-cause g c = tt

pub returns-clause-kept : goal.returns-clause-kept
returns-clause-kept g c = c.walk.ensures.kept

pub returns-clause-cause : goal.returns-clause-cause
returns-clause-cause g c = c.walk.ensures.cause
