use Rattle.std.proofs.Common.{◌≡◌, ℕ, ◌-◌, ◌<◌, true, length, get_or}
use Rattle.object_files.proofs.marks.first_unmarked.Given as goal

abbrev pub invariant-loop-at : goal.invariant-loop-at
invariant-loop-at l = (k : ℕ) → k < l.at → get_or l.marks k true ≡ true

abbrev pub decreases-loop-at : goal.decreases-loop-at
decreases-loop-at l = length l.marks - l.at
