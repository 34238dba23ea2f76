use Rattle.std.proofs.Common.{ℕ, ◌<◌, ◌≡◌, Some, slice_get}
use Rattle.std.specs.Prelude.{Contains}
use Rattle.object_files.specs.Catalog.{FileEntry}
use Rattle.page_entries.specs.Said.{numbers_read}
use Rattle.page_entries.proofs.file_grammar.none_removed.Given as goal

abbrev pub invariant-loop-i : goal.invariant-loop-i
invariant-loop-i l = (k : ℕ) (e : FileEntry) → k < l.i → slice_get l.files.entries k ≡ Some e → ¬ Contains (numbers_read l.fields l.n 18) e.file_no
