use Rattle.trees.proofs.WriteLaws.{SoFar}
use Rattle.trees.proofs.write.write_node.Given as goal

abbrev pub invariant-loop-part : goal.invariant-loop-part
invariant-loop-part l = SoFar l.fn.out l.level l.row l.part-index l.count l.at l.out
