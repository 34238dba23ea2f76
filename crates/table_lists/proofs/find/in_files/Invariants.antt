use Rattle.std.proofs.Common.{◌≡◌, drop}
use Rattle.std.specs.Prelude.{find, flat_map}
use Rattle.table_model.specs.Tables.{versions_in}
use Rattle.version_lists.specs.Versions.{has_oid}
use Rattle.table_lists.specs.Keys.{oid_of_key}
use Rattle.table_lists.proofs.find.in_files.Given as goal

abbrev pub invariant-loop-file : goal.invariant-loop-file
invariant-loop-file l = find (has_oid (oid_of_key l.key)) (flat_map versions_in (drop l.file-index l.files)) ≡ find (has_oid (oid_of_key l.key)) (flat_map versions_in l.files)
