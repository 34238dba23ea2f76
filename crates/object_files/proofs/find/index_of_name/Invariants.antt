use Rattle.std.proofs.Common.{◌≢◌, ℕ, ◌<◌}
use Rattle.object_files.specs.Reads.{name_in, entry_at}
use Rattle.object_files.proofs.find.index_of_name.Given as goal

abbrev pub invariant-loop-i : goal.invariant-loop-i
invariant-loop-i l = (k : ℕ) → k < l.i → name_in l.page (entry_at k) ≢ l.name
