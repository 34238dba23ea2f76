use Rattle.trees.proofs.Over.{OverSoFar}
use Rattle.trees.proofs.nodes.nodes_by.Given as goal

abbrev pub invariant-loop-len : goal.invariant-loop-len
invariant-loop-len g l = OverSoFar g.B.Ground l.fn.blocks l.blocks l.level l.row l.lens l.len-index l.above.items l.at
