use Rattle.std.proofs.Common.{◌≡◌, ◌+◌, ◌-◌, length}
use Rattle.slotted_pages.specs.Whole.{held, slots_held}
use Rattle.page_entries.specs.Applying.{slot_set}
use Rattle.page_entries.proofs.slots.set_slot.Given as goal

-- the vacant slots that were put behind the last one change nothing
abbrev pub invariant-loop-slots : goal.invariant-loop-slots
invariant-loop-slots l = slot_set l.slot (held l.body) (slots_held l.slots.items) ≡ slot_set l.slot (held l.body) (slots_held l.fn.slots.items)

abbrev pub decreases-loop-slots : goal.decreases-loop-slots
decreases-loop-slots l = l.slot + 1 - length l.slots.items
