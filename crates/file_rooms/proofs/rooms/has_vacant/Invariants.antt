use Rattle.std.proofs.Common.{◌≡◌, ◌-◌, ◌≤◌, length}
use Rattle.slotted_pages.specs.Edits.{vacant_at}
use Rattle.file_rooms.proofs.rooms.has_vacant.Given as goal

abbrev pub invariant-slots : goal.invariant-slots
invariant-slots l = (l.slots ≡ length l.view.page.slots) × (l.slot ≤ vacant_at l.view.page.slots)

abbrev pub decreases-slots : goal.decreases-slots
decreases-slots l = l.slots - l.slot
