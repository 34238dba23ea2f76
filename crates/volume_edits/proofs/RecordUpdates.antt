-- What the updates of versions make of records.
use Rattle.std.specs.Prelude.{[], ◌≡◌, ◌<◌, ◌≢◌, ℕ, not, Bool, List, ◌∷◌, ◌++◌, filter, Option, Some, None, IsSome, Contains}
use Rattle.std.specs.List.{AllByRecursion}
use Rattle.ex_base.specs.declared.names.Oid.{Oid}
use Rattle.ex_base.specs.declared.names.Place.{Place}
use Rattle.ex_base.specs.Places.{same_place}
use Rattle.object_records.specs.Record.{Record, BodyOf}
use Rattle.trees.specs.Trees.{Units}
use Rattle.volume_model.specs.Volume.{Stored, content_in, unique_of, stands_at}
use Rattle.volume_model.specs.Links.{stored_from, only_place, stored_units}
use Rattle.versions.specs.Versions.{new_record, place_of}
use Rattle.version_tree.specs.Bodies.{PlaceChange, derived_head, frozen_head, newer_head, older_head, with_head}
use Rattle.volume_edits.proofs.RecordEdits.{EditsStored}

abbrev pub stored_as : Place → Record → Stored
stored_as place r = record { place = place; body = r }

-- a number above those of all of these
abbrev pub IsAbove : ℕ → List Stored → Type 0
IsAbove number stored = AllByRecursion (λ (s : Stored). unique_of s < number) stored

-- ---- over other units

-- the contents of these spell the same bytes
abbrev pub SameBytes : Units → Units → List Stored → Type 0
SameBytes units after stored = AllByRecursion (λ (s : Stored). content_in after s.body.content ≡ content_in units s.body.content) stored

-- so do those at other places than this
abbrev pub OthersSameBytes : Units → Units → Place → List Stored → Type 0
OthersSameBytes units after place stored = AllByRecursion (λ (s : Stored). s.place ≢ place → content_in after s.body.content ≡ content_in units s.body.content) stored

-- the trees of these have the same units
abbrev pub SameTrees : Units → Units → List Stored → Type 0
SameTrees units after stored = AllByRecursion (λ (s : Stored). stored_units after s ≡ stored_units units s) stored

-- so have those at other places than this
abbrev pub OthersSameTrees : Units → Units → Place → List Stored → Type 0
OthersSameTrees units after place stored = AllByRecursion (λ (s : Stored). s.place ≢ place → stored_units after s ≡ stored_units units s) stored

-- ---- one record

-- The record at a place gets another content. Its head stays.
pub record EditsRecord (stored later : List Stored) (place : Place) (was is : Record) : Type 0 where
  pub there : stands_at place stored ≡ Some (stored_as place was)
  pub head : is.head ≡ was.head
  pub body : List ℕ
  pub spelled : BodyOf body is
  pub edit : EditsStored stored later ((place, Some body) ∷ [])

-- The record of a new object comes to a place where none stood.
pub record CreatesRecord (stored later : List Stored) (made : Oid) : Type 0 where
  pub vacant : stands_at (place_of made) stored ≡ None
  pub body : List ℕ
  pub spelled : BodyOf body (new_record made.unique)
  pub edit : EditsStored stored later ((place_of made, Some body) ∷ [])

-- ---- newer places

abbrev pub newer_put : Option Place → Record → Record
newer_put newer r = with_head (newer_head newer r.head) r

abbrev pub older_put : Option Place → Record → Record
older_put older r = with_head (older_head older r.head) r

-- The newer place of a record turns from one place to another, where it was that one.
pub data NewerTurns (s : Stored) (from to : Place) : List PlaceChange → Type 0 where
  stays : (s.body.head.newer ≡ Some from → ⊥) → NewerTurns s from to []
  turns : (now : List ℕ) → s.body.head.newer ≡ Some from → BodyOf now (newer_put (Some to) s.body) → NewerTurns s from to ((s.place, Some now) ∷ [])

-- so does that of the record at a place
pub record NewerTurnsAt (stored : List Stored) (from to place : Place) (others : List PlaceChange) : Type 0 where
  pub s : Stored
  pub there : stands_at place stored ≡ Some s
  pub turned : NewerTurns s from to others

-- and nothing does where no place is named
abbrev pub LinkTurns : List Stored → Place → Place → Option Place → List PlaceChange → Type 0
LinkTurns stored from to None others = others ≡ []
LinkTurns stored from to (Some place) others = NewerTurnsAt stored from to place others

-- A record that has a newer place loses it.
pub data NewerGoes (place : Place) (is : Record) : List PlaceChange → Type 0 where
  had_none : is.head.newer ≡ None → NewerGoes place is []
  had_one : (now : List ℕ) → IsSome is.head.newer → BodyOf now (newer_put None is) → NewerGoes place is ((place, Some now) ∷ [])

-- it stands at another place than this
abbrev pub stands_elsewhere : Place → Stored → Bool
stands_elsewhere gone s = not (same_place s.place gone)

-- the place of the only one of these that stands elsewhere
abbrev pub only_other : Place → List Stored → Option Place
only_other gone stored = only_place (filter (stands_elsewhere gone) stored)

-- The record at a place gets a newer place, where there is one to get.
pub data NewerComes (s : Stored) : Option Place → List PlaceChange → Type 0 where
  gets_none : NewerComes s None []
  gets_one : (now : List ℕ) (newer : Place) → BodyOf now (newer_put (Some newer) s.body) → NewerComes s (Some newer) ((s.place, Some now) ∷ [])

-- The record at a place gets the only other one as its newer one that is derived from it, where just one other is.
pub record NewerComesAt (stored : List Stored) (gone place : Place) (others : List PlaceChange) : Type 0 where
  pub s : Stored
  pub there : stands_at place stored ≡ Some s
  pub comes : NewerComes s (only_other gone (stored_from place stored)) others

abbrev pub LinkComes : List Stored → Place → Option Place → List PlaceChange → Type 0
LinkComes stored gone None others = others ≡ []
LinkComes stored gone (Some place) others = NewerComesAt stored gone place others

-- ---- copies

-- A frozen copy of a record comes between it and its older one: it names the copy as its older one, and where its older one named it as the newer one, that
-- names the copy.
pub record FreezesRecord (stored later : List Stored) (place : Place) (is : Record) (made : Oid) : Type 0 where
  pub there : stands_at place stored ≡ Some (stored_as place is)
  pub vacant : stands_at (place_of made) stored ≡ None
  pub copy : List ℕ
  pub copied : BodyOf copy (with_head (frozen_head made.unique place is.head) is)
  pub moved : List ℕ
  pub moves : BodyOf moved (older_put (Some (place_of made)) is)
  pub others : List PlaceChange
  pub older : LinkTurns stored place (place_of made) is.head.older others
  pub edit : EditsStored stored later (others ++ (place, Some moved) ∷ (place_of made, Some copy) ∷ [])

-- A current copy of a record is derived from it. The record has no newer place from then on.
pub record DerivesRecord (stored later : List Stored) (place : Place) (is : Record) (made : Oid) : Type 0 where
  pub there : stands_at place stored ≡ Some (stored_as place is)
  pub vacant : stands_at (place_of made) stored ≡ None
  pub copy : List ℕ
  pub copied : BodyOf copy (with_head (derived_head made.unique place) is)
  pub others : List PlaceChange
  pub older : NewerGoes place is others
  pub edit : EditsStored stored later (others ++ (place_of made, Some copy) ∷ [])

-- ---- removals

-- A record goes that names a newer one: that one names its older one instead, and where the older one named it as the newer one, that names the newer one.
pub record DropsRecord (stored later : List Stored) (place : Place) (is : Record) : Type 0 where
  pub there : stands_at place stored ≡ Some (stored_as place is)
  pub at : Place
  pub only : is.head.newer ≡ Some at
  pub next : Record
  pub next_there : stands_at at stored ≡ Some (stored_as at next)
  pub now : List ℕ
  pub moved : BodyOf now (older_put is.head.older next)
  pub others : List PlaceChange
  pub older : LinkTurns stored place at is.head.older others
  pub edit : EditsStored stored later (others ++ (at, Some now) ∷ (place, None) ∷ [])

-- A record goes. Where just one other names the record that it named as its older one, that one becomes the newer one of it.
pub record TakesRecord (stored later : List Stored) (place : Place) (is : Record) : Type 0 where
  pub there : stands_at place stored ≡ Some (stored_as place is)
  pub others : List PlaceChange
  pub older : LinkComes stored place is.head.older others
  pub edit : EditsStored stored later (others ++ (place, None) ∷ [])

-- The record at a link, if there is one, has no newer place: several name it as their older one.
abbrev pub LeavesOne : List Stored → Option Place → Type 0
LeavesOne stored link = (older : Stored) → Contains stored older → link ≡ Some older.place → older.body.head.newer ≡ None
