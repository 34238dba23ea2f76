use Rattle.std.proofs.Common.{◌≡◌, take, map}
use Rattle.version_lists.specs.Changes.{moved_onto}
use Rattle.table_lists.specs.Keys.{oid_of_key}
use Rattle.table_lists.proofs.change.versions_moved.Given as goal

abbrev pub invariant-loop-version : goal.invariant-loop-version
invariant-loop-version l = l.out.items ≡ map (moved_onto (oid_of_key l.key) l.number) (take l.version-index l.versions)
