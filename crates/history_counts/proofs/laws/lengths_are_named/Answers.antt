use Rattle.history_counts.proofs.Noted.{lengths_named}
use Rattle.history_counts.proofs.laws.lengths_are_named.Goals as goal

pub returns : goal.returns
returns c = lengths_named
