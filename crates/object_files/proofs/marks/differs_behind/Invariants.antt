use Rattle.std.proofs.Common.{◌≢◌, ℕ, ◌<◌}
use Rattle.object_files.specs.Reads.{number_in, entry_at}
use Rattle.object_files.proofs.marks.differs_behind.Given as goal

abbrev pub invariant-loop-j : goal.invariant-loop-j
invariant-loop-j l = (k : ℕ) → l.i < k → k < l.j → number_in l.page (entry_at l.i) ≢ number_in l.page (entry_at k)
