-- The search for a page with room.
use Rattle.std.specs.Prelude.{◌≡◌, ℕ, ◌≤◌, nat_le, nat_lt, if◌then◌else◌, List, length, Some, None, Contains}
use Rattle.ex_base.specs.declared.ground.Ground as ground
use Rattle.ex_base.specs.declared.names.Place.{Place}
use Rattle.slotted_pages.specs.FilePage.{SlotsOf}
use Rattle.slotted_pages.specs.Reads.{page_on}
use Rattle.slotted_pages.specs.Edits.{slots_of, with_slot, with_slots}
use Rattle.ex_base.specs.declared.names.Index.{Index}
use Rattle.file_index.specs.Index.{IsFilesPage}
use Rattle.file_bodies.specs.declared.placing.Room.{Room}
use Rattle.file_bodies.specs.Bodies.{pages_in}
use Rattle.file_bodies.specs.Places.{NoRoom, slot_for}

-- the page that a body of a length is looked for from
abbrev pub start_of : Room → ℕ → ℕ
start_of room len = if nat_le room.len len then room.from.0 else 0

-- what is left of it once a page changed
abbrev pub lowered_to : Room → ℕ → Room
lowered_to room page = if nat_lt page room.from.0 then record room { from = record { 0 = page } } else room

-- no page of the file from a number on has room for a body of a length
abbrev pub NoneFrom : {S : Type 0} → ground.Ghosts S → S → Index → ℕ → ℕ → Type 0
NoneFrom g s index len from = (page : ℕ) → Contains (pages_in (g.image s) index) page → from ≤ page → slot_for g s page len ≡ None

-- The place is on the lowest page from a number on that has room for the body, and the image is that page with the body.
pub record IsPlaced {S : Type 0} (g : ground.Ghosts S) (s : S) (index : Index) (from : ℕ) (body : List ℕ) (place : Place) (image : List ℕ) : Type 0 where
  pub named : Contains (pages_in (g.image s) index) place.page.0
  pub area : IsFilesPage (g.geometry s) place.page.0
  pub slot : slot_for g s place.page.0 (length body) ≡ Some place.slot
  pub passed : NoRoom g s index (length body) from place.page.0
  pub spelled : SlotsOf image (with_slots (page_on (g.image s place.page.0)) (with_slot (slots_of (g.image s place.page.0)) place.slot (Some body)))
