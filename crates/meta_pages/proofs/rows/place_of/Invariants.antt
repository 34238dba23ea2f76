use Rattle.std.proofs.Common.{◌≤◌, ◌-◌, length}
use Rattle.meta_pages.specs.Rows.{place}
use Rattle.meta_pages.proofs.rows.place_of.Given as goal

abbrev pub invariant-loop-low : goal.invariant-loop-low
invariant-loop-low g l = record { behind : l.low ≤ place l.page l.rows; before : place l.page l.rows ≤ l.high; within : l.high ≤ length l.rows }

abbrev pub decreases-loop-low : goal.decreases-loop-low
decreases-loop-low g l = l.high - l.low
