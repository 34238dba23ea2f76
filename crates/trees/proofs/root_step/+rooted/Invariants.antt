use Rattle.std.proofs.Common.{length}
use Rattle.trees.proofs.root_step.+rooted.Given as goal

abbrev pub decreases-rooted : goal.decreases-rooted
decreases-rooted g l = length l.row.now
