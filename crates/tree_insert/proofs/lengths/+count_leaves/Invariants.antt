use Rattle.std.specs.Prelude.{nat_eq}
use Rattle.std.specs.HashMap.{get}
use Rattle.tree_insert.proofs.Counting.{CountSoFar}
use Rattle.tree_insert.proofs.lengths.+count_leaves.Given as goal

abbrev pub decreases-count_leaves : goal.decreases-count_leaves
decreases-count_leaves g l = l.level

abbrev pub invariant-loop-child : goal.invariant-loop-child
invariant-loop-child g l = CountSoFar g.B.Ground l.fn.blocks l.blocks (get nat_eq l.fn.known) (get nat_eq l.known) l.level l.child-items l.child-index l.leaves
