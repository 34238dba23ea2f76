use Rattle.std.proofs.Common.{◌≡◌, take, map}
use Rattle.table_model.specs.Tables.{object_added}
use Rattle.table_lists.proofs.files.files_with_object.Given as goal

abbrev pub invariant-loop-file : goal.invariant-loop-file
invariant-loop-file l = l.out.items ≡ map (object_added l.oid l.name) (take l.file-index l.files)
