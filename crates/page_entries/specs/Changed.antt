-- The slots that differ between two lists of them.
use Rattle.std.specs.Prelude.{suc, Bool, true, false, if◌then◌else◌, bytes_eq, List, [], ◌∷◌, ◌++◌, map, Some, None}
use Rattle.slotted_pages.specs.FilePage.{Slot}
use Rattle.page_entries.specs.Said.{SlotChange}

abbrev pub same_slot : Slot → Slot → Bool
same_slot None None = true
same_slot (Some a) (Some b) = bytes_eq a b
same_slot _ _ = false

abbrev pub change_if : Slot → Slot → List SlotChange
change_if old new = if same_slot old new then [] else (0, new) ∷ []

abbrev pub one_behind : List SlotChange → List SlotChange
one_behind changes = map (λ (change : SlotChange). (suc change.0, change.1)) changes

abbrev pub slots_added : List Slot → List SlotChange
slots_added [] = []
slots_added (new ∷ news) = change_if None new ++ one_behind (slots_added news)

-- the slots whose content differs, each with its new one
abbrev pub slots_changed : List Slot → List Slot → List SlotChange
slots_changed [] news = slots_added news
slots_changed (old ∷ olds) [] = change_if old None ++ one_behind (slots_changed olds [])
slots_changed (old ∷ olds) (new ∷ news) = change_if old new ++ one_behind (slots_changed olds news)
