use Rattle.history_volumes.proofs.AllItems.{history_whole}
use Rattle.history_volumes.proofs.a_history_of_a_volume_is_whole.Goals as goal

pub returns : goal.returns
returns c = history_whole
