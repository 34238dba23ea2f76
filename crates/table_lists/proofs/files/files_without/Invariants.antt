use Rattle.std.proofs.Common.{◌≡◌, take}
use Rattle.std.specs.Prelude.{filter, not}
use Rattle.table_model.specs.Tables.{has_name}
use Rattle.table_lists.proofs.files.files_without.Given as goal

abbrev pub invariant-loop-file : goal.invariant-loop-file
invariant-loop-file l = l.out.items ≡ filter (λ f. not (has_name l.name f)) (take l.file-index l.files)
