use Rattle.std.proofs.Common.{◌≡◌, take, map}
use Rattle.table_lists.proofs.names.file_names.Given as goal

abbrev pub invariant-loop-file : goal.invariant-loop-file
invariant-loop-file l = l.out.items ≡ map (λ f. f.name) (take l.file-index l.files)
