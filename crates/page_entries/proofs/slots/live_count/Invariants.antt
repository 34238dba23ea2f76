use Rattle.std.proofs.Common.{◌≡◌, ◌≤◌, length, take}
use Rattle.slotted_pages.specs.Edits.{trimmed}
use Rattle.slotted_pages.specs.Whole.{slots_held}
use Rattle.page_entries.proofs.slots.live_count.Given as goal

abbrev pub invariant-loop-count : goal.invariant-loop-count
invariant-loop-count l = record {
  within : l.count ≤ length l.slots;
  same : trimmed (slots_held (take l.count l.slots)) ≡ trimmed (slots_held l.slots);
}

abbrev pub decreases-loop-count : goal.decreases-loop-count
decreases-loop-count l = l.count
