use Rattle.std.proofs.Common.{◌≡◌, drop}
use Rattle.std.specs.Prelude.{find, flat_map}
use Rattle.std.specs.List.{list_any}
use Rattle.version_lists.specs.Versions.{has_oid}
use Rattle.table_lists.specs.Keys.{oid_of_key}
use Rattle.table_lists.proofs.find.object_in_files.Given as goal

abbrev pub invariant-loop-file : goal.invariant-loop-file
invariant-loop-file l = find (λ o. list_any (has_oid (oid_of_key l.key)) o.versions) (flat_map (λ f. f.objects) (drop l.file-index l.files)) ≡ find (λ o. list_any (has_oid (oid_of_key l.key)) o.versions) (flat_map (λ f. f.objects) l.files)
