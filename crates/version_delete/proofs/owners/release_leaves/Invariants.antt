use Rattle.version_delete.proofs.Releasing.{SoFar}
use Rattle.version_delete.proofs.owners.release_leaves.Given as goal

-- the leaves before this one were released, at no step
abbrev pub invariant-loop-leaf : goal.invariant-loop-leaf
invariant-loop-leaf g l = SoFar g.B.Ground l.initial.blocks l.blocks 1 l.row l.leaf-index 0 0
