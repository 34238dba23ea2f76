use Rattle.tree_insert.proofs.Counting.{FrontSoFar}
use Rattle.tree_insert.proofs.lengths.+first_lengths.Given as goal

abbrev pub decreases-first_lengths : goal.decreases-first_lengths
decreases-first_lengths g l = l.level

abbrev pub invariant-loop-child : goal.invariant-loop-child
invariant-loop-child g l = FrontSoFar g.B.Ground l.fn.blocks l.blocks l.most l.level l.child-items l.child-index l.fn.lengths.items l.lengths.items
