use Rattle.history_items.proofs.WrittenItems.{NodeSoFar}
use Rattle.history_items.proofs.nodes.write_node.Given as goal

abbrev pub invariant-loop-pair : goal.invariant-loop-pair
invariant-loop-pair l = NodeSoFar l.fn.out l.level l.pairs l.pair-index l.at l.out
