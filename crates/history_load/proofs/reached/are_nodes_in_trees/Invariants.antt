use Rattle.std.proofs.Common.{◌≡◌, ◌≤◌, ◌<◌, ℕ, true, false}
use Rattle.page_alloc.specs.UnitSet.{used_at}
use Rattle.volume_port.specs.Logged.{is_held}
use Rattle.history_writes.specs.Places.{node_place}
use Rattle.history_load.proofs.reached.are_nodes_in_trees.Given as goal

abbrev pub invariant-loop-number : goal.invariant-loop-number
invariant-loop-number l = (i : ℕ) → 1 ≤ i → i < l.number → (used_at l.units (node_place i) ≡ true) × (is_held l.pages (node_place i) ≡ false)
