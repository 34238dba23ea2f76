use Rattle.std.proofs.Common.{◌-◌, length}
use Rattle.page_alloc.proofs.search.first_free.Given as goal
use Rattle.page_alloc.proofs.Runs.{Searching}

abbrev pub invariant-loop-full : goal.invariant-loop-full
invariant-loop-full l = Searching l.used l.full l.crowded l.at

abbrev pub decreases-loop-full : goal.decreases-loop-full
decreases-loop-full l = length l.used - l.at
