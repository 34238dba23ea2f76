use Rattle.std.proofs.Common.{◌-◌}
use Rattle.trees.proofs.Children.{Halved}
use Rattle.trees.proofs.view.NodeView.first_above.Given as goal

-- the first count above the position stands from low to high
abbrev pub invariant-loop-low : goal.invariant-loop-low
invariant-loop-low l = Halved l.pos l.self.pairs l.low l.high

abbrev pub decreases-loop-low : goal.decreases-loop-low
decreases-loop-low l = l.high - l.low
