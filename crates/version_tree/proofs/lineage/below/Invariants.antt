use Rattle.std.proofs.Common.{take}
use Rattle.version_tree.proofs.LineageOrder.{AreBelow}
use Rattle.version_tree.proofs.lineage.below.Given as goal

abbrev pub invariant-members : goal.invariant-members
invariant-members l = AreBelow l.levels (take l.member-index l.run) l.rest.member l.rests.items
