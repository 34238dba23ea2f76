-- What stands at the places of a file, and a file that is edited at some of them.
use Rattle.std.specs.Prelude.{◌≡◌, ℕ, if◌then◌else◌, List, [], ◌∷◌, Option, Some, None}
use Rattle.ex_base.specs.declared.ground.Ground as ground
use Rattle.ex_base.specs.declared.names.Place.{Place}
use Rattle.ex_base.specs.Area.{catalog_no}
pub use Rattle.ex_base.specs.Places.{same_place}
use Rattle.slotted_pages.specs.FilePage.{Slot}
use Rattle.object_records.specs.Record.{Record}
use Rattle.object_records.specs.declared.Head.{Head}
use Rattle.object_records.specs.declared.State.TheVariants.{Current, Frozen}
use Rattle.object_files.specs.Reads.{catalog_on}
use Rattle.ex_base.specs.declared.names.Index.{Index}
use Rattle.file_index.specs.Changes.{Changes}
use Rattle.file_bodies.specs.Bodies.{Row, bodies_of}
use Rattle.file_bodies.specs.Files.{HasFile, all_pages, with_index}

-- ---- a place of a file

-- the body at a place, of these rows
abbrev pub body_at : Place → List Row → Slot
body_at place [] = None
body_at place (row ∷ rows) = if same_place row.0 place then Some row.1 else body_at place rows

-- ---- a file that is edited

-- a place, and what stands there from then on
abbrev pub PlaceChange : Type 0
PlaceChange = Place × Slot

-- what stands at a place after changes, the last of which stands first
abbrev pub changed_at : List PlaceChange → Place → Slot → Slot
changed_at [] place was = was
changed_at (change ∷ changes) place was = if same_place change.0 place then change.1 else changed_at changes place was

-- A whole file becomes another: its bodies change at these places and at no other one.
pub record EditsBodies {S : Type 0} (g : ground.Ghosts S) (old new : S) (before after : Index) (changes : List PlaceChange) : Type 0 where
  pub file : HasFile g new after
  pub same_file : after.file_no ≡ before.file_no
  pub bodies : (place : Place) → body_at place (bodies_of (g.image new) after) ≡ changed_at changes place (body_at place (bodies_of (g.image old) before))
  pub catalog : catalog_on (g.image new catalog_no) ≡ with_index (catalog_on (g.image old catalog_no)) after
  pub pages : Changes g old new (catalog_no ∷ all_pages (g.image old) before) (catalog_no ∷ all_pages (g.image new) after)

-- The same units are in use, and the working state has the same logged pages.
pub record SameUnits {S : Type 0} (g : ground.Ghosts S) (old new : S) : Type 0 where
  pub used : g.used new ≡ g.used old
  pub held : g.held new ≡ g.held old

-- ---- the records that are written

abbrev pub with_head : Head → Record → Record
with_head head r = record { head = head; content = r.content }

-- named as derived from the version at another place
abbrev pub older_head : Option Place → Head → Head
older_head older head = record head { older = older }

abbrev pub newer_head : Option Place → Head → Head
newer_head newer head = record head { newer = newer }

-- the head of the frozen copy that comes between the version at a place and its older one
abbrev pub frozen_head : ℕ → Place → Head → Head
frozen_head unique place head = record { state = Frozen; unique = unique; older = head.older; newer = Some place }

-- the head of the current copy that is derived from the version at a place
abbrev pub derived_head : ℕ → Place → Head
derived_head unique place = record { state = Current; unique = unique; older = Some place; newer = None }
