use Rattle.std.proofs.Common.{◌≡◌, None, take}
use Rattle.std.specs.List.{find}
use Rattle.version_tree.specs.Lineage.{stands_at}
use Rattle.version_tree.proofs.lineage.older_at.Given as goal

abbrev pub invariant-members : goal.invariant-members
invariant-members l = find (stands_at l.place) (take l.member-index l.run) ≡ None
