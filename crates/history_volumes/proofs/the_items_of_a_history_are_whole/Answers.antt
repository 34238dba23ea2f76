use Rattle.history_volumes.proofs.AllItems.{are_items}
use Rattle.history_volumes.proofs.the_items_of_a_history_are_whole.Goals as goal

pub returns : goal.returns
returns c = are_items
