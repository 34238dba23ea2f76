-- When changes of slots apply to a page, and what the page is after them.
use Rattle.std.specs.Prelude.{ℕ, zero, suc, List, [], ◌∷◌, length, None}
use Rattle.slotted_pages.specs.FilePage.{Slot, FilePage, IsFilePage}
use Rattle.slotted_pages.specs.Reads.{page_on, IsPage}
use Rattle.slotted_pages.specs.Edits.{slots_of, trimmed, with_slots}
use Rattle.page_entries.specs.Said.{SlotChange}

-- the slots with one of them set; those between stay vacant
abbrev pub slot_set : ℕ → Slot → List Slot → List Slot
slot_set zero slot [] = slot ∷ []
slot_set zero slot (s ∷ slots) = slot ∷ slots
slot_set (suc i) slot [] = None ∷ slot_set i slot []
slot_set (suc i) slot (s ∷ slots) = s ∷ slot_set i slot slots

abbrev pub slots_after : List SlotChange → List Slot → List Slot
slots_after [] slots = slots
slots_after (change ∷ changes) slots = slots_after changes (slot_set change.0 change.1 slots)

-- Trailing vacant slots aren't kept.
abbrev pub page_after_slots : List SlotChange → List ℕ → FilePage
page_after_slots changes old = with_slots (page_on old) (trimmed (slots_after changes (slots_of old)))

-- the changes apply where the old page is a file page and the new one is in the grammar of one of its size
pub record SlotsApply (old : List ℕ) (changes : List SlotChange) : Type 0 where
  pub page : IsPage old
  pub fits : IsFilePage (length old) (page_after_slots changes old)
