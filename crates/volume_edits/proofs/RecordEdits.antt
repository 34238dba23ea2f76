-- Rows as the records that they are read as, and records that change at some places.
use Rattle.std.specs.Prelude.{[], ◌≡◌, ℕ, if◌then◌else◌, List, ◌∷◌, Option, Some, None, IfSome, map}
use Rattle.ex_base.specs.declared.names.Place.{Place}
use Rattle.ex_base.specs.Places.{same_place}
use Rattle.slotted_pages.specs.FilePage.{Slot}
use Rattle.object_records.specs.Record.{Record, BodyOf}
use Rattle.object_records.specs.Reads.{record_on}
use Rattle.file_bodies.specs.Bodies.{Row}
use Rattle.volume_model.specs.Volume.{Stored, stands_at}
use Rattle.volume_model.specs.Links.{PlacesDiffer}
use Rattle.version_tree.specs.Bodies.{PlaceChange}

-- a row as the record that it is read as
abbrev pub stored_at : Row → Stored
stored_at row = record { place = row.0; body = record_on row.1 }

abbrev pub stored_of : List Row → List Stored
stored_of rows = map stored_at rows

-- the record that a slot at a place is read as
abbrev pub stored_if : Place → Slot → Option Stored
stored_if place None = None
stored_if place (Some body) = Some (stored_at (place, body))

-- the record at a place after changes, the last of which stands first
abbrev pub stored_after : List PlaceChange → Place → Option Stored → Option Stored
stored_after [] place was = was
stored_after (change ∷ changes) place was = if same_place change.0 place then stored_if place change.1 else stored_after changes place was

-- Records become others: they change at these places and at no other one, and no two stand at one place before and after.
pub record EditsStored (stored later : List Stored) (changes : List PlaceChange) : Type 0 where
  pub places : PlacesDiffer stored
  pub later_places : PlacesDiffer later
  pub at : (place : Place) → stands_at place later ≡ stored_after changes place (stands_at place stored)

-- a body that is written is a record
abbrev pub IsWritten : PlaceChange → Type 0
IsWritten change = IfSome change.1 (λ (body : List ℕ). (is : Record) × BodyOf body is)
