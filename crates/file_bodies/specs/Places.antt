-- Where a new body goes, and which place comes next.
use Rattle.std.specs.Prelude.{◌≡◌, ◌⊎◌, ℕ, ◌+◌, ◌≤◌, ◌<◌, false, List, ◌∷◌, ◌++◌, length, Option, Some, None, IsSome, slice_index_or, Contains}
use Rattle.std.specs.List.{AllByRecursion}
use Rattle.ex_base.specs.declared.ground.Ground as ground
use Rattle.ex_base.specs.declared.names.Place.{Place}
use Rattle.slotted_pages.specs.FilePage.{Slot}
use Rattle.slotted_pages.specs.Edits.{slots_of, place_for}
use Rattle.ex_base.specs.declared.names.Index.{Index}
use Rattle.file_bodies.specs.declared.placing.Room.{Room}
use Rattle.file_bodies.specs.Bodies.{Row, pages_in}
use Rattle.file_bodies.specs.Files.{EditsFile}

-- ---- a new place

-- the slot that a body of a length gets on a page, if it has room
abbrev pub slot_for : {S : Type 0} → ground.Ghosts S → S → ℕ → ℕ → Option ℕ
slot_for g s page len = place_for (g.geometry s).page_size (slots_of (g.image s page)) len

-- no page of the file from one number on and below another has room for a body of a length
abbrev pub NoRoom : {S : Type 0} → ground.Ghosts S → S → Index → ℕ → ℕ → ℕ → Type 0
NoRoom g s index len from to = (page : ℕ) → Contains (pages_in (g.image s) index) page → from ≤ page → page < to → slot_for g s page len ≡ None

-- what a caller remembers of a file: below a page, none has room for a body of a length
abbrev pub IsRoom : {S : Type 0} → ground.Ghosts S → S → Index → Room → Type 0
IsRoom g s index room = NoRoom g s index room.len 0 room.from.0

-- The place is on the lowest page of the file with room for the body, in the slot that it gets there.
pub record IsLowest {S : Type 0} (g : ground.Ghosts S) (s : S) (index : Index) (len : ℕ) (place : Place) : Type 0 where
  pub named : Contains (pages_in (g.image s) index) place.page.0
  pub slot : slot_for g s place.page.0 len ≡ Some place.slot
  pub lowest : NoRoom g s index len 0 place.page.0

-- No page of the file has room for the body, and the place is the first slot of a page that was taken.
pub record IsFresh {S : Type 0} (g : ground.Ghosts S) (s : S) (index : Index) (len : ℕ) (place : Place) : Type 0 where
  pub none : (page : ℕ) → Contains (pages_in (g.image s) index) page → slot_for g s page len ≡ None
  pub taken : g.held s place.page.0 ≡ false
  pub slot : place.slot ≡ 0

-- The place that the rule gives: the lowest page of the file with room, in the lowest vacant slot, else a new page.
abbrev pub IsChosen : {S : Type 0} → ground.Ghosts S → S → Index → ℕ → Place → Type 0
IsChosen g s index len place = IsLowest g s index len place ⊎ IsFresh g s index len place

-- A body is put into a file at the place that the rule gives. Below the place's page none has room for as long a body.
pub record PlacesBody {S : Type 0} (g : ground.Ghosts S) (old new : S) (index : Index) (place : Place) (body : List ℕ) : Type 0 where
  pub after : Index
  pub edit : EditsFile g old new index after place None (Some body)
  pub chosen : IsChosen g old index (length body) place
  pub below : NoRoom g new after (length body) 0 place.page.0

-- The place is on a page of the file with room for a body of a length, in the slot that the body gets there.
pub record IsRoomy {S : Type 0} (g : ground.Ghosts S) (s : S) (index : Index) (len : ℕ) (place : Place) : Type 0 where
  pub named : Contains (pages_in (g.image s) index) place.page.0
  pub slot : slot_for g s place.page.0 len ≡ Some place.slot

-- The place is the first slot of a page that the working state did not have.
pub record IsOnNewPage {S : Type 0} (g : ground.Ghosts S) (s : S) (place : Place) : Type 0 where
  pub taken : g.held s place.page.0 ≡ false
  pub slot : place.slot ≡ 0

-- A body is put into a file at a place that it hadn't: on some page of the file with room for it, or on a new one.
pub record PutsBody {S : Type 0} (g : ground.Ghosts S) (old new : S) (index : Index) (place : Place) (body : List ℕ) : Type 0 where
  pub after : Index
  pub edit : EditsFile g old new index after place None (Some body)
  pub vacant : IsRoomy g old index (length body) place ⊎ IsOnNewPage g old place

-- A body is taken out of a file.
pub record RemovesBody {S : Type 0} (g : ground.Ghosts S) (old new : S) (index : Index) (place : Place) (body : List ℕ) : Type 0 where
  pub after : Index
  pub edit : EditsFile g old new index after place (Some body) None

-- ---- the next place

-- the first slot from a number on that has a body
pub record IsFirstLive (slots : List Slot) (from slot : ℕ) : Type 0 where
  pub reached : from ≤ slot
  pub live : IsSome (slice_index_or slots slot None)
  pub vacant : (k : ℕ) → from ≤ k → k < slot → slice_index_or slots k None ≡ None

-- the place is not before a slot of a page
abbrev pub IsFrom : ℕ → ℕ → Place → Type 0
IsFrom page slot place = (page < place.page.0) ⊎ ((page ≡ place.page.0) × (slot ≤ place.slot))

-- The place is that of the first row from a slot of a page on.
pub record IsFirstFrom (rows : List Row) (page slot : ℕ) (place : Place) : Type 0 where
  pub front : List Row
  pub body : List ℕ
  pub back : List Row
  pub is : rows ≡ front ++ ((place, body) ∷ back)
  pub passed : AllByRecursion (λ (row : Row). ¬ IsFrom page slot row.0) front
  pub reached : IsFrom page slot place

-- the first row from there on, none exactly where there is none
abbrev pub FirstFrom : List Row → ℕ → ℕ → Option Place → Type 0
FirstFrom rows page slot None = AllByRecursion (λ (row : Row). ¬ IsFrom page slot row.0) rows
FirstFrom rows page slot (Some place) = IsFirstFrom rows page slot place

-- the row that comes next in the list: the first one, or the first behind a place
abbrev pub IsNext : List Row → Option Place → Option Place → Type 0
IsNext rows None next = FirstFrom rows 0 0 next
IsNext rows (Some after) next = FirstFrom rows after.page.0 (after.slot + 1) next
