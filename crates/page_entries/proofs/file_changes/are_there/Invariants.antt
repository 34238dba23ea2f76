use Rattle.std.proofs.Common.{ℕ, ◌+◌, ◌*◌, ◌<◌, map}
use Rattle.std.specs.Prelude.{Contains}
use Rattle.ex_base.specs.Fields.{number_at}
use Rattle.object_files.specs.Catalog.{number_of}
use Rattle.page_entries.proofs.file_changes.are_there.Given as goal

abbrev pub invariant-loop-i : goal.invariant-loop-i
invariant-loop-i l = (k : ℕ) → k < l.i → Contains (map number_of l.files.entries) (number_at 4 l.fields (18 + 4 * k))
