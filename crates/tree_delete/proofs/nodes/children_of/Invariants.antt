use Rattle.tree_delete.proofs.NodeLaws.{OpenedSoFar}
use Rattle.tree_delete.proofs.nodes.children_of.Given as goal

abbrev pub invariant-loop-part : goal.invariant-loop-part
invariant-loop-part g l = OpenedSoFar g.B.Ground l.fn.blocks l.blocks l.level l.least l.row l.part-index l.all.items
