use Rattle.history_reads.proofs.Ends.{ends_are_items}
use Rattle.history_reads.proofs.laws.ends_are_items.Goals as goal

pub returns : goal.returns
returns c = ends_are_items
