use Rattle.trees.proofs.Parts.{HalvesSoFar}
use Rattle.trees.proofs.lent_nodes.are_half_full.Given as goal

abbrev pub invariant-loop-index : goal.invariant-loop-index
invariant-loop-index l = HalvesSoFar l.full l.node.pairs l.index l.before
