use Rattle.std.proofs.Common.{◌≡◌, ◌≢◌, ℕ, ◌<◌, Some, slice_get}
use Rattle.object_files.specs.Catalog.{FileEntry}
use Rattle.page_entries.proofs.file_changes.has_number.Given as goal

abbrev pub invariant-loop-i : goal.invariant-loop-i
invariant-loop-i l = (k : ℕ) (e : FileEntry) → k < l.i → slice_get l.files.entries k ≡ Some e → e.file_no ≢ l.file_no
