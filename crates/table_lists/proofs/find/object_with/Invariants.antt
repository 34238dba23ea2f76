use Rattle.std.proofs.Common.{◌≡◌, drop}
use Rattle.std.specs.Prelude.{find}
use Rattle.std.specs.List.{list_any}
use Rattle.version_lists.specs.Versions.{has_oid}
use Rattle.table_lists.specs.Keys.{oid_of_key}
use Rattle.table_lists.proofs.find.object_with.Given as goal

abbrev pub invariant-loop-object : goal.invariant-loop-object
invariant-loop-object l = find (λ o. list_any (has_oid (oid_of_key l.key)) o.versions) (drop l.object-index l.objects) ≡ find (λ o. list_any (has_oid (oid_of_key l.key)) o.versions) l.objects
