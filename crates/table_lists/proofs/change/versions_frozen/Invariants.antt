use Rattle.std.proofs.Common.{◌≡◌, ◌++◌, take, map}
use Rattle.std.specs.Prelude.{filter}
use Rattle.version_lists.specs.Versions.{has_oid}
use Rattle.version_lists.specs.Changes.{moved_onto, frozen_copy}
use Rattle.table_lists.specs.Keys.{oid_of_key}
use Rattle.table_lists.proofs.change.versions_frozen.Given as goal

-- the copies so far stand behind all versions
abbrev pub invariant-loop-version : goal.invariant-loop-version
invariant-loop-version l =
    l.out.items ≡ map (moved_onto (oid_of_key l.key) l.copy.unique) l.versions ++ map (frozen_copy l.copy) (filter (has_oid (oid_of_key l.key)) (take l.version-index l.versions))
