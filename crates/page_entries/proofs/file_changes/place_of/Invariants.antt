use Rattle.std.proofs.Common.{◌≡◌, ◌≢◌, ℕ, List, ◌<◌, Some, slice_get}
use Rattle.std.specs.Ordering.{nat_cmp}
use Rattle.std.specs.Cmp.Lexicographic.{slice_cmp}
use Rattle.std.specs.declared.cmp.Ordering.TheVariants.{Less}
use Rattle.object_files.specs.Catalog.{FileEntry}
use Rattle.page_entries.specs.FilesAfter.{Lists}
use Rattle.page_entries.proofs.file_changes.place_of.Given as goal

abbrev pub invariant-loop-i : goal.invariant-loop-i
invariant-loop-i l = (es : List FileEntry) → Lists l.files es → (k : ℕ) (f : FileEntry) → k < l.i → slice_get es k ≡ Some f → slice_cmp nat_cmp l.name f.name ≢ Less
