use Rattle.std.proofs.Common.{◌≡◌, take, map}
use Rattle.table_model.specs.Tables.{with_versions}
use Rattle.table_lists.specs.Changed.{versions_after}
use Rattle.table_lists.proofs.files.files_changed.Given as goal

abbrev pub invariant-loop-file : goal.invariant-loop-file
invariant-loop-file l = l.out.items ≡ map (with_versions (versions_after l.change)) (take l.file-index l.files)
