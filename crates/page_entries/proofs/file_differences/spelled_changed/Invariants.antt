use Rattle.std.proofs.Common.{◌≡◌, take}
use Rattle.std.specs.List.{flat_map}
use Rattle.object_files.specs.Catalog.{entry_bytes}
use Rattle.page_entries.specs.Rule.{files_changed}
use Rattle.page_entries.proofs.file_differences.spelled_changed.Given as goal

abbrev pub invariant-loop-i : goal.invariant-loop-i
invariant-loop-i l = l.bytes.items ≡ flat_map entry_bytes (files_changed l.old.entries (take l.i l.new.entries))
