use Rattle.std.proofs.Common.{length}
use Rattle.version_tree.specs.Lineage.{listed}
use Rattle.version_tree.proofs.LineageOrder.{InOrder, to_list}
use Rattle.version_tree.proofs.lineage.list_members.Given as goal

abbrev pub invariant-rests : goal.invariant-rests
invariant-rests l = InOrder l.olders.items (listed l.members l.fn.member) l.todo.items l.oids.items

abbrev pub decreases-rests : goal.decreases-rests
decreases-rests l = length (to_list l.olders.items l.todo.items)
