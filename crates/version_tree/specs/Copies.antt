-- Copies of records that are put into files, and links that turn to them.
use Rattle.std.specs.Prelude.{◌≡◌, ◌<◌, ◌≤◌, ◌+◌, ℕ, Bool, max, List, [], ◌∷◌, ◌++◌, length, Option, Some, None, IfSome, IsSome}
use Rattle.ex_base.specs.declared.ground.Ground as ground
use Rattle.ex_base.specs.declared.faults.PortFault.{PortFault}
use Rattle.ex_base.specs.declared.geometry.Geometry.{Geometry}
use Rattle.ex_base.specs.declared.names.Oid.{Oid}
use Rattle.ex_base.specs.declared.names.Place.{Place}
use Rattle.object_records.specs.Record.{Content, Small, Large, Record, BodyOf, NewerFits}
use Rattle.object_records.specs.declared.Head.{Head}
use Rattle.object_records.specs.declared.State.TheVariants.{Current, Frozen}
use Rattle.file_bodies.specs.Files.{HasBody}
use Rattle.object_records.specs.Reads.{record_on}
use Rattle.ex_base.specs.declared.names.Index.{Index}
use Rattle.file_bodies.specs.declared.placing.Room.{Room}
use Rattle.file_bodies.specs.Bodies.{Row, bodies_of}
use Rattle.file_bodies.specs.Damage.{IsListedFault, IsPlacingFault}
use Rattle.file_bodies.specs.Places.{PutsBody}
use Rattle.file_bodies.specs.Placing.{start_of}
use Rattle.ex_base.specs.Ports.{IsDamage}
use Rattle.versions.specs.Damage.{record_fault}
use Rattle.versions.specs.Versions.{place_of}
use Rattle.version_tree.specs.Bodies.{PlaceChange, EditsBodies, body_at, derived_head, frozen_head, newer_head, older_head, with_head}
use Rattle.version_tree.specs.Linked.{head_in}
use Rattle.version_tree.specs.Links.{HasNeighbours, IsOlderFault, IsRecordFault, StandsIn, StoredAt}
use Rattle.version_tree.specs.declared.links.Stored.{Stored}

-- the bytes of the record of a content
abbrev pub content_len : Content → ℕ
content_len (Small bytes) = 24 + max 12 (length bytes)
content_len (Large root) = 36

-- A record is put into a file at a place that it hadn't.
pub record CopiesRecord {S : Type 0} (g : ground.Ghosts S) (old new : S) (index : Index) (place : Place) (is : Record) : Type 0 where
  pub body : List ℕ
  pub spelled : BodyOf body is
  pub puts : PutsBody g old new index place body

-- a link names no place, or any but the one of zeros
abbrev pub IsNamed : Option Place → Type 0
IsNamed None = Unit {0}
IsNamed (Some place) = 0 < place.page.0 + place.slot

-- A record may have the head.
pub record IsHead (head : Head) : Type 0 where
  pub older : IsNamed head.older
  pub newer : IsNamed head.newer
  pub fits : NewerFits head.state head.newer

-- What a call tells that puts a copy of the record with a body at a place into the file of a room: that it can't be copied; or of the file, in which a page
-- is looked for with room for as long a body.
pub data IsCopyFault (g : Geometry) (held : ℕ → Bool) (image : ℕ → List ℕ) (room : Room) (place : Place) (body : List ℕ) (fault : PortFault) : Type 0 where
  uncopied : IsRecordFault place fault → IsCopyFault g held image room place body fault
  unplaced : IsListedFault image room.file_no (λ index. IsPlacingFault g held image index (start_of room (length body)) fault) fault → IsCopyFault g held image room place body fault

-- no whole file that a room is of has a record with a body at a place
abbrev pub IsOutOf : {S : Type 0} → ground.Ghosts S → S → Room → Place → List ℕ → Type 0
IsOutOf g s room place body = (index : Index) (is : Record) → HasBody g s index place body → BodyOf body is → index.file_no ≡ room.file_no → ⊥

-- no whole file that a room is of has a record with a body at a place and the records that its links name
abbrev pub AreOutOf : {S : Type 0} → ground.Ghosts S → S → Room → Place → List ℕ → Type 0
AreOutOf g s room place body = (index : Index) → HasNeighbours g s index place body → index.file_no ≡ room.file_no → ⊥

-- ---- a link that turns

-- The newer place of the record in a body at a place turns from one place to another, where it was that one.
pub data Turns (place : Place) (body : List ℕ) (from to : Place) : List PlaceChange → Type 0 where
  stays : ((head_in body).newer ≡ Some from → ⊥) → Turns place body from to []
  turns : (now : List ℕ) → (head_in body).newer ≡ Some from → BodyOf now (with_head (newer_head (Some to) (head_in body)) (record_on body)) → Turns place body from to ((place, Some now) ∷ [])

-- so does that of the record at a place of these rows
pub record TurnsAt (rows : List Row) (from to place : Place) (changes : List PlaceChange) : Type 0 where
  pub body : List ℕ
  pub there : body_at place rows ≡ Some body
  pub turned : Turns place body from to changes

-- and nothing does where no place is named
abbrev pub TurnsLink : List Row → Place → Place → Option Place → List PlaceChange → Type 0
TurnsLink rows from to None changes = changes ≡ []
TurnsLink rows from to (Some place) changes = TurnsAt rows from to place changes

-- The newer place of a record that was read turns, and nothing else changes in its file.
pub record TurnsStored {S : Type 0} (g : ground.Ghosts S) (old new : S) (index : Index) (stored : Stored) (from to : Place) : Type 0 where
  pub changes : List PlaceChange
  pub turned : Turns stored.place stored.body.items from to changes
  pub bodies : EditsBodies g old new index index changes

-- so does that of the record that a link names, as it stood in these rows
pub record TurnsOlder {S : Type 0} (g : ground.Ghosts S) (old new : S) (index : Index) (rows : List Row) (link : Option Place) (from to : Place) : Type 0 where
  pub changes : List PlaceChange
  pub turned : TurnsLink rows from to link changes
  pub bodies : EditsBodies g old new index index changes

-- ---- freeze and derive

-- In the file a frozen record stands that was read.
pub record IsFrozenIn {S : Type 0} (g : ground.Ghosts S) (s : S) (index : Index) (stored : Stored) : Type 0 where
  pub stands : StandsIn g s index stored
  pub frozen : stored.head.state ≡ Frozen

-- A version was read, and the frozen one that it is derived from, where it is derived from one.
pub record IsRead {S : Type 0} (g : ground.Ghosts S) (s : S) (index : Index) (was : Stored) (older : Option Stored) (is : Record) : Type 0 where
  pub has : HasBody g s index was.place was.body.items
  pub spelled : BodyOf was.body.items is
  pub head : was.head ≡ is.head
  pub fits : length was.body.items + 20 ≤ (g.geometry s).page_size
  pub link : StoredAt (bodies_of (g.image s) index) is.head.older older
  pub frozen : IfSome older (IsFrozenIn g s index)

-- A frozen copy of a version, with its content, comes between it and its older one: the version names the copy as its older one, and where the older one named
-- the version as its newer one, it names the copy.
pub record Freezes {S : Type 0} (g : ground.Ghosts S) (old new : S) (index : Index) (place : Place) (is : Record) (made : Oid) : Type 0 where
  pub after : Index
  pub vacant : body_at (place_of made) (bodies_of (g.image old) index) ≡ None
  pub copy : List ℕ
  pub copied : BodyOf copy (with_head (frozen_head made.unique place is.head) is)
  pub moved : List ℕ
  pub moves : BodyOf moved (with_head (older_head (Some (place_of made)) is.head) is)
  pub others : List PlaceChange
  pub older : TurnsLink (bodies_of (g.image old) index) place (place_of made) is.head.older others
  pub bodies : EditsBodies g old new index after (others ++ (place, Some moved) ∷ (place_of made, Some copy) ∷ [])

-- A frozen version that has a newer place loses it.
pub data Unlinks (place : Place) (is : Record) : List PlaceChange → Type 0 where
  had_none : is.head.newer ≡ None → Unlinks place is []
  had_one : (now : List ℕ) → IsSome is.head.newer → BodyOf now (with_head (newer_head None is.head) is) → Unlinks place is ((place, Some now) ∷ [])

-- In the file the version stands that was read.
pub record IsVersionIn {S : Type 0} (g : ground.Ghosts S) (s : S) (index : Index) (was : Stored) (is : Record) : Type 0 where
  pub has : HasBody g s index was.place was.body.items
  pub spelled : BodyOf was.body.items is
  pub head : was.head ≡ is.head
  pub fits : length was.body.items + 20 ≤ (g.geometry s).page_size

-- The record at a place loses its newer place, if it has one, and nothing else changes in its file.
pub record UnlinksIn {S : Type 0} (g : ground.Ghosts S) (old new : S) (index : Index) (place : Place) (is : Record) : Type 0 where
  pub changes : List PlaceChange
  pub unlinked : Unlinks place is changes
  pub bodies : EditsBodies g old new index index changes

-- A current copy of a frozen version, with its content, is derived from it. The version has no newer place from then on.
pub record Derives {S : Type 0} (g : ground.Ghosts S) (old new : S) (index : Index) (place : Place) (is : Record) (made : Oid) : Type 0 where
  pub after : Index
  pub vacant : body_at (place_of made) (bodies_of (g.image old) index) ≡ None
  pub copy : List ℕ
  pub copied : BodyOf copy (with_head (derived_head made.unique place) is)
  pub others : List PlaceChange
  pub older : Unlinks place is others
  pub bodies : EditsBodies g old new index after (others ++ (place_of made, Some copy) ∷ [])

-- ---- what is told

-- What a call tells that derives a version from the one with a body at a place: that this isn't frozen; or of the copy, of which no damage is told where a whole
-- file of the room has the version.
pub data IsDerivingFault {S : Type 0} (g : ground.Ghosts S) (s : S) (room : Room) (place : Place) (body : List ℕ) (fault : PortFault) : Type 0 where
  not_asked : ((head_in body).state ≡ Frozen → ⊥) → fault ≡ record_fault place → IsDerivingFault g s room place body fault
  by_copy : IsCopyFault (g.geometry s) (g.held s) (g.image s) room place body fault → (IsDamage fault → IsOutOf g s room place body) → IsDerivingFault g s room place body fault

-- What a call tells that freezes the version with a body at a place: that this isn't current; of its older link; of the copy, of which no damage is told where a
-- whole file of the room has the version; or that the record that the link names can't name the copy, of which none is told where the file has that record too.
pub data IsFreezingFault {S : Type 0} (g : ground.Ghosts S) (s : S) (room : Room) (place : Place) (body : List ℕ) (fault : PortFault) : Type 0 where
  not_current : ((head_in body).state ≡ Current → ⊥) → fault ≡ record_fault place → IsFreezingFault g s room place body fault
  of_older : IsOlderFault g s (head_in body) fault → IsFreezingFault g s room place body fault
  of_copy : IsCopyFault (g.geometry s) (g.held s) (g.image s) room place body fault → (IsDamage fault → IsOutOf g s room place body) → IsFreezingFault g s room place body fault
  unturned_older : (older : Place) → (head_in body).older ≡ Some older → IsRecordFault older fault → (IsDamage fault → AreOutOf g s room place body) → IsFreezingFault g s room place body fault
