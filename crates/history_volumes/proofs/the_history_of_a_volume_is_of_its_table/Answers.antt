use Rattle.history_volumes.proofs.Whole.{history_of}
use Rattle.history_volumes.proofs.the_history_of_a_volume_is_of_its_table.Goals as goal

pub returns : goal.returns
returns c = history_of
