use Rattle.std.proofs.Common.{◌≡◌, ◌++◌, ◌-◌, take}
use Rattle.std.specs.Prelude.{flat_map}
use Rattle.version_lists.specs.Versions.{listed_from}
use Rattle.table_lists.proofs.tree.+list_from.Given as goal

abbrev pub decreases-list_from : goal.decreases-list_from
decreases-list_from l = l.levels

abbrev pub invariant-loop-next : goal.invariant-loop-next
invariant-loop-next l = l.out.items ≡ l.initial.out.items ++ flat_map (listed_from (l.levels - 1) l.versions) (take l.next-index l.next-items)
