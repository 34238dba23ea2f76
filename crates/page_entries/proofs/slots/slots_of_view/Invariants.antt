use Rattle.std.proofs.Common.{◌≡◌, take}
use Rattle.slotted_pages.specs.Whole.{slots_held}
use Rattle.page_entries.proofs.slots.slots_of_view.Given as goal

abbrev pub invariant-loop-i : goal.invariant-loop-i
invariant-loop-i l = slots_held l.slots.items ≡ take l.i l.view.page.slots
