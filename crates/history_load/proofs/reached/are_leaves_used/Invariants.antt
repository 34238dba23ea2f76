use Rattle.std.proofs.Common.{◌≡◌, ◌≤◌, ◌<◌, ℕ, true}
use Rattle.page_alloc.specs.UnitSet.{used_at}
use Rattle.history_writes.specs.Places.{leaf_place}
use Rattle.history_load.proofs.reached.are_leaves_used.Given as goal

abbrev pub invariant-loop-number : goal.invariant-loop-number
invariant-loop-number l = (i : ℕ) → 1 ≤ i → i < l.number → used_at l.units (leaf_place l.geometry i) ≡ true
