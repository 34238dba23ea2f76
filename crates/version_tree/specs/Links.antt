-- Records that links lead to, and what is told of them.
use Rattle.std.specs.Prelude.{◌≡◌, ◌<◌, ◌≤◌, ℕ, List, Option, Some, None, IfSome}
use Rattle.ex_base.specs.declared.faults.Seen.{Seen}
use Rattle.ex_base.specs.declared.faults.PortFault.{PortFault}
use Rattle.ex_base.specs.declared.faults.PortFault.TheVariants.{Damaged}
use Rattle.ex_base.specs.declared.geometry.Geometry.{Geometry}
use Rattle.ex_base.specs.declared.names.Oid.{Oid}
use Rattle.ex_base.specs.declared.names.Place.{Place}
use Rattle.ex_base.specs.declared.ground.Ground as ground
use Rattle.ex_base.specs.Area.{InPageArea}
use Rattle.ex_base.specs.Ports.{IsDamage}
use Rattle.slotted_pages.specs.Reads.{page_on, IsPage}
use Rattle.object_records.specs.Record.{Record, BodyOf}
use Rattle.object_records.specs.declared.Head.{Head}
use Rattle.object_records.specs.declared.State.TheVariants.{Frozen}
use Rattle.ex_base.specs.declared.names.Index.{Index}
use Rattle.file_bodies.specs.Bodies.{Row}
use Rattle.file_bodies.specs.Damage.{IsBelongingFault}
use Rattle.file_bodies.specs.Files.{HasBody, HasSomeBody}
use Rattle.versions.specs.Listed.{oid_at}
use Rattle.versions.specs.Versions.{HasRecord, place_of}
use Rattle.version_tree.specs.Bodies.{body_at}
use Rattle.versions.specs.Damage.{record_fault, StandsOn, IsFindingFault, IsListingFault, IsWalkedOut}
use Rattle.version_tree.specs.Linked.{head_in}
use Rattle.version_tree.specs.declared.links.Stored.{Stored}

-- The record at a place was read, and has this body.
pub record IsStored (stored : Stored) (place : Place) (body : List ℕ) : Type 0 where
  pub stands : stored.place ≡ place
  pub head : stored.head ≡ head_in body
  pub bytes : stored.body.items ≡ body

-- The record at a place of these rows was read.
pub record IsStoredAt (rows : List Row) (place : Place) (stored : Stored) : Type 0 where
  pub body : List ℕ
  pub there : body_at place rows ≡ Some body
  pub is : IsStored stored place body

-- the record at a place that is named was read, none where none is
abbrev pub StoredAt : List Row → Option Place → Option Stored → Type 0
StoredAt rows None found = found ≡ None
StoredAt rows (Some place) None = ⊥
StoredAt rows (Some place) (Some stored) = IsStoredAt rows place stored

-- In a file the record stands that was read.
pub record StandsIn {S : Type 0} (g : ground.Ghosts S) (s : S) (index : Index) (stored : Stored) : Type 0 where
  pub has : HasBody g s index stored.place stored.body.items
  pub is : Record
  pub spelled : BodyOf stored.body.items is
  pub head : stored.head ≡ is.head

-- A record stands at a place of a whole file.
pub record HasSomeRecord {S : Type 0} (g : ground.Ghosts S) (s : S) (index : Index) (place : Place) : Type 0 where
  pub body : List ℕ
  pub has : HasBody g s index place body
  pub is : Record
  pub spelled : BodyOf body is

-- A whole file has the record with a body at a place, and the records that its links name.
pub record HasNeighbours {S : Type 0} (g : ground.Ghosts S) (s : S) (index : Index) (place : Place) (body : List ℕ) : Type 0 where
  pub has : HasBody g s index place body
  pub is : Record
  pub spelled : BodyOf body is
  pub older : IfSome is.head.older (HasSomeRecord g s index)
  pub newer : IfSome is.head.newer (HasSomeRecord g s index)

-- no whole file has all of them
abbrev pub LacksNeighbours : {S : Type 0} → ground.Ghosts S → S → Place → List ℕ → Type 0
LacksNeighbours g s place body = (index : Index) → HasNeighbours g s index place body → ⊥

abbrev pub oid_read : Option Stored → Option Oid
oid_read None = None
oid_read (Some stored) = Some (oid_at stored.place stored.head.unique)

-- ---- unique numbers

-- the number that an older version's is asked to be below, that of the frozen one derived from it
abbrev pub below_seen : ℕ → Seen
below_seen number = record { kind = 5; level = 1; total = number }

-- the number that a newer frozen version's is asked to be above, that of the one it is derived from
abbrev pub above_seen : ℕ → Seen
above_seen number = record { kind = 5; level = 2; total = number }

-- the number that a version has
abbrev pub number_seen : ℕ → Seen
number_seen number = record { kind = 5; level = 0; total = number }

-- ---- what is read of the pages themselves

-- The record in the slot of a place was read.
pub record IsReadOn (image : ℕ → List ℕ) (place : Place) (stored : Stored) : Type 0 where
  pub at : stored.place ≡ place
  pub stands : StandsOn image place stored.body.items
  pub head : stored.head ≡ head_in stored.body.items

-- so was the one at a place that is named; none where none is
abbrev pub ReadOn : (ℕ → List ℕ) → Option Place → Option Stored → Type 0
ReadOn image None found = found ≡ None
ReadOn image (Some place) None = ⊥
ReadOn image (Some place) (Some stored) = IsReadOn image place stored

-- In the slot where an OID leads a record stands with its number.
pub record HasVersionOn (image : ℕ → List ℕ) (oid : Oid) (body : List ℕ) : Type 0 where
  pub stands : StandsOn image (place_of oid) body
  pub is : Record
  pub spelled : BodyOf body is
  pub number : is.head.unique ≡ oid.unique

-- The record of a version was read.
pub record IsVersionOn (image : ℕ → List ℕ) (oid : Oid) (stored : Stored) : Type 0 where
  pub read : IsReadOn image (place_of oid) stored
  pub version : HasVersionOn image oid stored.body.items

-- A frozen record stands at the older place of a record with a head; its number is lower where that one is frozen.
pub record IsOlderOn (image : ℕ → List ℕ) (head : Head) (place : Place) : Type 0 where
  pub body : List ℕ
  pub stands : StandsOn image place body
  pub frozen : (head_in body).state ≡ Frozen
  pub lower : head.state ≡ Frozen → (head_in body).unique < head.unique

-- A record that is derived from the one at a place stands at the newer place of that, which has a head; its number is higher where it is frozen.
pub record IsNewerOn (image : ℕ → List ℕ) (from : Place) (head : Head) (place : Place) : Type 0 where
  pub body : List ℕ
  pub stands : StandsOn image place body
  pub older : (head_in body).older ≡ Some from
  pub higher : (head_in body).state ≡ Frozen → head.unique < (head_in body).unique

-- the older place of a head, if it names one, has what it names; so has the newer one of the head of the record at a place
abbrev pub OlderOn : (ℕ → List ℕ) → Head → Type 0
OlderOn image head = IfSome head.older (IsOlderOn image head)

abbrev pub NewerOn : (ℕ → List ℕ) → Place → Head → Type 0
NewerOn image from head = IfSome head.newer (IsNewerOn image from head)

-- the OID of the record in the slot of a place
pub record IsOidOn (image : ℕ → List ℕ) (place : Place) (oid : Oid) : Type 0 where
  pub body : List ℕ
  pub stands : StandsOn image place body
  pub is : oid ≡ oid_at place (head_in body).unique

-- the OID of the record in the slot of a place that is named, none where none is
abbrev pub OidOn : (ℕ → List ℕ) → Option Place → Option Oid → Type 0
OidOn image None found = found ≡ None
OidOn image (Some place) None = ⊥
OidOn image (Some place) (Some oid) = IsOidOn image place oid

-- What a call has read of a version: its record, and what holds of the body.
pub record IsReadAnd (image : ℕ → List ℕ) (oid : Oid) (Holds : List ℕ → Type 0) : Type 0 where
  pub body : List ℕ
  pub version : HasVersionOn image oid body
  pub holds : Holds body

-- ---- what is told

-- the fault is the port's own, or tells that the record at a place isn't as the call asks
abbrev pub IsRecordFault : Place → PortFault → Type 0
IsRecordFault place fault = IsDamage fault → fault ≡ record_fault place

-- What is told where the record at a place is read: the port's own faults; of the file of its page; or that no whole file has a record there.
pub data IsStoredFault {S : Type 0} (g : ground.Ghosts S) (s : S) (place : Place) (fault : PortFault) : Type 0 where
  read_own : (IsDamage fault → ⊥) → IsStoredFault g s place fault
  in_its_file : IsBelongingFault (g.geometry s) (g.image s) place.page.0 fault → IsStoredFault g s place fault
  no_record : ((body : List ℕ) (is : Record) → HasSomeBody g s place body → BodyOf body is → ⊥) → fault ≡ record_fault place → IsStoredFault g s place fault

-- What a call tells that reads a version: the port's own faults; what a look for it tells; or that no whole file has it.
pub data IsReadingFault {S : Type 0} (g : ground.Ghosts S) (s : S) (oid : Oid) (fault : PortFault) : Type 0 where
  ports_own : (IsDamage fault → ⊥) → IsReadingFault g s oid fault
  by_look : IsFindingFault (g.geometry s) (g.image s) oid fault → IsReadingFault g s oid fault
  no_version : ((index : Index) (is : Record) → HasRecord g s index oid is → ⊥) → fault ≡ record_fault (place_of oid) → IsReadingFault g s oid fault

-- What is told of the older link of a head: of the place that it names; that no frozen record stands there; or that the version there has no lower number than
-- the frozen one with the head.
pub data IsOlderFault {S : Type 0} (g : ground.Ghosts S) (s : S) (head : Head) (fault : PortFault) : Type 0 where
  at_older : (place : Place) → head.older ≡ Some place → IsStoredFault g s place fault → IsOlderFault g s head fault
  not_frozen : (place : Place) (older : List ℕ) → head.older ≡ Some place → StandsOn (g.image s) place older → ((head_in older).state ≡ Frozen → ⊥) → fault ≡ record_fault place → IsOlderFault g s head fault
  not_below : (place : Place) (older : List ℕ) → head.older ≡ Some place → StandsOn (g.image s) place older → head.state ≡ Frozen → head.unique ≤ (head_in older).unique
      → fault ≡ Damaged place.page (below_seen head.unique) (number_seen (head_in older).unique) → IsOlderFault g s head fault

-- What is told of the newer link of the head of the record at a place: of the place that it names; that the record there isn't derived from it; or that the
-- frozen version there has no higher number.
pub data IsNewerFault {S : Type 0} (g : ground.Ghosts S) (s : S) (from : Place) (head : Head) (fault : PortFault) : Type 0 where
  at_newer : (place : Place) → head.newer ≡ Some place → IsStoredFault g s place fault → IsNewerFault g s from head fault
  not_derived : (place : Place) (newer : List ℕ) → head.newer ≡ Some place → StandsOn (g.image s) place newer → ((head_in newer).older ≡ Some from → ⊥) → fault ≡ record_fault place → IsNewerFault g s from head fault
  not_above : (place : Place) (newer : List ℕ) → head.newer ≡ Some place → StandsOn (g.image s) place newer → (head_in newer).state ≡ Frozen → (head_in newer).unique ≤ head.unique
      → fault ≡ Damaged place.page (above_seen head.unique) (number_seen (head_in newer).unique) → IsNewerFault g s from head fault

-- What a call tells that goes on from the record of a version: what is told where that is read; or what is told of the body that stands where the OID leads.
pub data IsLinkedFault {S : Type 0} (g : ground.Ghosts S) (s : S) (oid : Oid) (Told : List ℕ → Type 0) (fault : PortFault) : Type 0 where
  of_version : IsReadingFault g s oid fault → IsLinkedFault g s oid Told fault
  of_body : (body : List ℕ) → StandsOn (g.image s) (place_of oid) body → Told body → IsLinkedFault g s oid Told fault

-- the fault is the port's own, or tells of a place that its page isn't one of a file
abbrev pub IsStartFault : Geometry → (ℕ → List ℕ) → Place → PortFault → Type 0
IsStartFault g image place fault = IsDamage fault → (fault ≡ record_fault place) × (InPageArea g place.page.0 → IsPage (image place.page.0) → ⊥)

-- What is told of a walk over the file that has a place: that no page of a file has it; or, of the file whose number its page shows, what such a walk tells.
pub data IsWalkFault (g : Geometry) (image : ℕ → List ℕ) (place : Place) (fault : PortFault) : Type 0 where
  at_start : IsStartFault g image place fault → IsWalkFault g image place fault
  on_way : IsPage (image place.page.0) → IsListingFault g image (page_on (image place.page.0)).file_no fault → IsWalkFault g image place fault

-- The page of a place shows the number of a file, over which a walk comes to an end.
pub record IsWalkedFrom (g : Geometry) (image : ℕ → List ℕ) (place : Place) : Type 0 where
  pub page : IsPage (image place.page.0)
  pub out : IsWalkedOut g image (page_on (image place.page.0)).file_no

-- What a call tells that lists what is derived from the version with a body at a place: of its newer link; or, where it has none, of the walk over its file.
pub data IsDerivedFault {S : Type 0} (g : ground.Ghosts S) (s : S) (place : Place) (body : List ℕ) (fault : PortFault) : Type 0 where
  by_newer : IsNewerFault g s place (head_in body) fault → IsDerivedFault g s place body fault
  by_walk : (head_in body).newer ≡ None → IsWalkFault (g.geometry s) (g.image s) place fault → IsDerivedFault g s place body fault
