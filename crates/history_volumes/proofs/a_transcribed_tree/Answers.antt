use Rattle.history_volumes.proofs.Whole.{tree_there}
use Rattle.history_volumes.proofs.a_transcribed_tree.Goals as goal

pub returns : goal.returns
returns c = tree_there
