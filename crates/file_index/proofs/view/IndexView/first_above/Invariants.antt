use Rattle.std.proofs.Common.{◌-◌}
use Rattle.file_index.proofs.Picking.{Halved}
use Rattle.file_index.proofs.view.IndexView.first_above.Given as goal

-- the first entry above the key stands from low to high
abbrev pub invariant-loop-low : goal.invariant-loop-low
invariant-loop-low l = Halved l.key l.self.entries l.low l.high

abbrev pub decreases-loop-low : goal.decreases-loop-low
decreases-loop-low l = l.high - l.low
