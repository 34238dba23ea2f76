use Rattle.history_volumes.proofs.Made.{has_history}
use Rattle.history_volumes.proofs.a_volume_has_a_history.Goals as goal

pub returns : goal.returns
returns c = has_history
