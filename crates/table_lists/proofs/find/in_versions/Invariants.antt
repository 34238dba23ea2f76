use Rattle.std.proofs.Common.{◌≡◌, drop}
use Rattle.std.specs.Prelude.{find}
use Rattle.version_lists.specs.Versions.{has_oid}
use Rattle.table_lists.specs.Keys.{oid_of_key}
use Rattle.table_lists.proofs.find.in_versions.Given as goal

-- what is found in the rest is found in all
abbrev pub invariant-loop-version : goal.invariant-loop-version
invariant-loop-version l = find (has_oid (oid_of_key l.key)) (drop l.version-index l.versions) ≡ find (has_oid (oid_of_key l.key)) l.versions
