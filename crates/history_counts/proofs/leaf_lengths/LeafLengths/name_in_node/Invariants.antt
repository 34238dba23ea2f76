use Rattle.history_counts.proofs.Noted.{NodeSoFar}
use Rattle.history_counts.proofs.leaf_lengths.LeafLengths.name_in_node.Given as goal

abbrev pub invariant-loop-i : goal.invariant-loop-i
invariant-loop-i l = NodeSoFar l.fn.self l.self l.node.pairs l.i l.last
