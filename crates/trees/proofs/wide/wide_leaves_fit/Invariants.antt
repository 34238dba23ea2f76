use Rattle.trees.proofs.LeafRises.{FitSoFar}
use Rattle.trees.proofs.wide.wide_leaves_fit.Given as goal

abbrev pub invariant-loop-i : goal.invariant-loop-i
invariant-loop-i l = FitSoFar l.full l.n l.i l.before l.unfit l.bytes
