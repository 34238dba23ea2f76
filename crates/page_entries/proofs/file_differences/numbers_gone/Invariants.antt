use Rattle.std.proofs.Common.{◌≡◌, ℕ, not, take, map, filter}
use Rattle.object_files.specs.Catalog.{number_of}
use Rattle.page_entries.specs.FilesAfter.{has_no}
use Rattle.page_entries.proofs.file_differences.numbers_gone.Given as goal

abbrev pub invariant-loop-i : goal.invariant-loop-i
invariant-loop-i l = l.gone.items ≡ filter (λ (n : ℕ). not (has_no (map number_of l.new.entries) n)) (map number_of (take l.i l.old.entries))
