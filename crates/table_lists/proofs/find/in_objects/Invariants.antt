use Rattle.std.proofs.Common.{◌≡◌, drop}
use Rattle.std.specs.Prelude.{find, flat_map}
use Rattle.version_lists.specs.Versions.{has_oid}
use Rattle.table_lists.specs.Keys.{oid_of_key}
use Rattle.table_lists.proofs.find.in_objects.Given as goal

abbrev pub invariant-loop-object : goal.invariant-loop-object
invariant-loop-object l = find (has_oid (oid_of_key l.key)) (flat_map (λ o. o.versions) (drop l.object-index l.objects)) ≡ find (has_oid (oid_of_key l.key)) (flat_map (λ o. o.versions) l.objects)
