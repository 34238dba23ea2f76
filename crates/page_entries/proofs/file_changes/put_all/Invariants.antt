use Rattle.std.proofs.Common.{List, drop, length, ◌-◌}
use Rattle.object_files.specs.Catalog.{FileEntry}
use Rattle.page_entries.specs.FilesAfter.{Lists, files_put}
use Rattle.page_entries.proofs.file_changes.put_all.Given as goal

-- the last files are put
abbrev pub invariant-loop-k : goal.invariant-loop-k
invariant-loop-k l = (es : List FileEntry) → Lists l.fn.files.items es → Lists l.files.items (files_put (drop (length l.put.entries - l.k) l.put.entries) es)
