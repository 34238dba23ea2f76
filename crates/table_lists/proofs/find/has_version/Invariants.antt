use Rattle.std.proofs.Common.{◌≡◌, drop}
use Rattle.std.specs.List.{list_any}
use Rattle.version_lists.specs.Versions.{has_oid}
use Rattle.table_lists.specs.Keys.{oid_of_key}
use Rattle.table_lists.proofs.find.has_version.Given as goal

abbrev pub invariant-loop-version : goal.invariant-loop-version
invariant-loop-version l = list_any (has_oid (oid_of_key l.key)) (drop l.version-index l.version-items) ≡ list_any (has_oid (oid_of_key l.key)) l.object.versions
