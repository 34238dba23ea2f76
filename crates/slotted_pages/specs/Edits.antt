-- What an edit does to the slots of a page.
use Rattle.std.specs.Prelude.{◌≡◌, ℕ, zero, suc, ◌+◌, ◌≤◌, ◌==◌, nat_le, if◌then◌else◌, List, [], ◌∷◌, ◌++◌, length, take, slice_index_or, Option, Some, None}
use Rattle.std.specs.List.{AllByRecursion}
use Rattle.ex_base.specs.Fields.{two_bytes}
use Rattle.slotted_pages.specs.FilePage.{Slot, FilePage, body_of, bodies, taken, room_of, IsSlot, EndsLive}
use Rattle.slotted_pages.specs.Reads.{page_on}

-- the lowest vacant slot, or the number of slots where none is vacant
abbrev pub vacant_at : List Slot → ℕ
vacant_at [] = 0
vacant_at (None ∷ slots) = 0
vacant_at (Some body ∷ slots) = suc (vacant_at slots)

-- the slots with one of them changed, or one behind the last
abbrev pub with_slot : List Slot → ℕ → Slot → List Slot
with_slot [] i slot = slot ∷ []
with_slot (s ∷ slots) zero slot = slot ∷ slots
with_slot (s ∷ slots) (suc i) slot = s ∷ with_slot slots i slot

abbrev pub before_live : Slot → List Slot → List Slot
before_live None [] = []
before_live slot slots = slot ∷ slots

-- the slots up to the last live one
abbrev pub trimmed : List Slot → List Slot
trimmed [] = []
trimmed (slot ∷ slots) = before_live slot (trimmed slots)

-- the bytes that a body takes: 4 more where no slot is vacant
abbrev pub need_of : List Slot → ℕ → ℕ
need_of slots len = len + (if vacant_at slots == length slots then 4 else 0)

-- the slot that a body of a length gets, if it fits the room
abbrev pub place_for : ℕ → List Slot → ℕ → Option ℕ
place_for size slots len = if nat_le (need_of slots len) (room_of size slots) then Some (vacant_at slots) else None

abbrev pub with_slots : FilePage → List Slot → FilePage
with_slots p slots = record p { slots = slots }

abbrev pub slots_of : List ℕ → List Slot
slots_of page = (page_on page).slots

-- the body in a slot, no bytes where it is vacant or past the last
abbrev pub body_in : List ℕ → ℕ → List ℕ
body_in page slot = body_of (slice_index_or (slots_of page) slot None)

-- ---- the directory, by the lengths of the bodies

abbrev pub begin_read : ℕ → ℕ → ℕ
begin_read at zero = 0
begin_read at (suc len) = at

abbrev pub len_field : ℕ → ℕ → List ℕ
len_field at len = two_bytes (begin_read at len) ++ two_bytes len

abbrev pub directory_of : ℕ → List ℕ → List ℕ
directory_of at [] = []
directory_of at (len ∷ lens) = directory_of (at + len) lens ++ len_field at len

-- ---- a slot that is changed

-- a slot with these bytes, vacant where there are none
abbrev pub slot_with : List ℕ → Slot
slot_with [] = None
slot_with (byte ∷ bytes) = Some (byte ∷ bytes)

-- so many of the slots hold all the bodies, the last of them isn't vacant, and they fit
pub record Left (size : ℕ) (slots : List Slot) (count : ℕ) : Type 0 where
  pub few : count ≤ length slots
  pub same : bodies (take count slots) ≡ bodies slots
  pub each : AllByRecursion IsSlot slots
  pub live : EndsLive (take count slots)
  pub room : taken slots ≤ size
