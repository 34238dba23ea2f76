use Rattle.history_volumes.proofs.Reached.{each_once}
use Rattle.history_volumes.proofs.a_history_has_each_unit_once.Goals as goal

pub returns : goal.returns
returns c = each_once
