use Rattle.tree_insert.proofs.ReplacedLeaves.{ReplacedSoFar}
use Rattle.tree_insert.proofs.overwrite.replace_leaves.Given as goal

abbrev pub invariant-loop-leaf : goal.invariant-loop-leaf
invariant-loop-leaf g l = ReplacedSoFar g.B.Ground l.fn.blocks l.blocks l.run l.pos l.given l.leaf-index l.start l.made.items
