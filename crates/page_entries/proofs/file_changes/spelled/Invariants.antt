use Rattle.std.proofs.Common.{◌≡◌, List, take}
use Rattle.std.specs.List.{flat_map}
use Rattle.object_files.specs.Catalog.{FileEntry, entry_bytes}
use Rattle.page_entries.specs.FilesAfter.{Lists}
use Rattle.page_entries.proofs.file_changes.spelled.Given as goal

abbrev pub invariant-loop-file : goal.invariant-loop-file
invariant-loop-file l = (es : List FileEntry) → Lists l.files es → l.bytes.items ≡ flat_map entry_bytes (take l.file-index es)
