use Rattle.table_model.proofs.StepsKeep.{steps_keep}
use Rattle.table_model.proofs.laws.steps_keep_the_rules.Goals as goal

pub returns : goal.returns
returns c = steps_keep
