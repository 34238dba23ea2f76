use Rattle.history_counts.proofs.Counted.{pages_counted}
use Rattle.history_counts.proofs.laws.pages_are_counted.Goals as goal

pub returns : goal.returns
returns c = pages_counted
