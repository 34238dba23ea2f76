use Rattle.trees.proofs.Laid.{LaidSoFar}
use Rattle.trees.proofs.leaves.write_leaves.Given as goal

abbrev pub invariant-loop-size : goal.invariant-loop-size
invariant-loop-size g l = LaidSoFar g.B.Ground l.fn.blocks l.blocks l.run l.change.at l.change.cut l.given l.lengths l.size-index l.row.items l.at
