use Rattle.std.proofs.Common.{◌≡◌, drop}
use Rattle.std.specs.Prelude.{find}
use Rattle.table_model.specs.Tables.{has_name}
use Rattle.table_lists.proofs.find.file_among.Given as goal

abbrev pub invariant-loop-file : goal.invariant-loop-file
invariant-loop-file l = find (has_name l.name) (drop l.file-index l.files) ≡ find (has_name l.name) l.files
