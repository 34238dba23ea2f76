-- What a fault of a call on versions says of the page, the record or the root that isn't what names it.
use Rattle.std.specs.Prelude.{◌≡◌, ◌≤◌, ◌<◌, ◌+◌, ℕ, List, length, Option, Some, None, IfSome, slice_index_or}
use Rattle.ex_base.specs.declared.faults.PortFault.{PortFault}
use Rattle.ex_base.specs.declared.faults.PortFault.TheVariants.{Damaged}
use Rattle.ex_base.specs.declared.geometry.Geometry.{Geometry}
use Rattle.ex_base.specs.declared.ground.Ground as ground
use Rattle.ex_base.specs.declared.names.Index.{Index}
use Rattle.ex_base.specs.declared.names.Oid.{Oid}
use Rattle.ex_base.specs.declared.names.PageNo.{PageNo}
use Rattle.ex_base.specs.declared.names.Place.{Place}
use Rattle.ex_base.specs.declared.names.Root.{Root}
use Rattle.ex_base.specs.Area.{NamesLeaf}
use Rattle.ex_base.specs.Ports.{IsDamage}
use Rattle.slotted_pages.specs.Edits.{slots_of}
use Rattle.slotted_pages.specs.Reads.{IsPage}
use Rattle.object_records.specs.Record.{Large, Record, BodyOf}
use Rattle.ex_base.specs.Seen.{header_seen, nothing_seen, record_seen}
use Rattle.file_index.specs.Damage.{every_page}
use Rattle.file_index.specs.Index.{IsFilesPage}
use Rattle.file_bodies.specs.Files.{HasBody}
use Rattle.file_bodies.specs.Damage.{page_from, HasListed, IsFoundIn, IsBelongingFault, IsListedFault, IsLook, IsLookFault}
use Rattle.trees.specs.Trees.{Units}
use Rattle.trees.specs.Damage.{IsRootFault, IsRootReadFault, IsSoundRoot}
use Rattle.trees.specs.Roots.{IsRootFor}
use Rattle.versions.specs.Listed.{rank_of, start_rank}
use Rattle.versions.specs.Versions.{place_of, root_of}
use Rattle.versions.specs.Found.{IsTold}
use Rattle.versions.specs.Put.{IsPlaced}
use Rattle.versions.specs.declared.finding.Found.{Found}

-- ---- what is told

-- the fault of a place where the record doesn't stand that a call asks for
abbrev pub record_fault : Place → PortFault
record_fault place = Damaged place.page (record_seen place.slot) nothing_seen

-- the fault of a header, on a page, whose numbers are out of their limits
abbrev pub root_fault : PageNo → Root → PortFault
root_fault page root = Damaged page (header_seen root.height root.size) nothing_seen

-- ---- what stands where an OID leads

-- the slot of a place has this body
abbrev pub StandsOn : (ℕ → List ℕ) → Place → List ℕ → Type 0
StandsOn image place body = slice_index_or (slots_of (image place.page.0)) place.slot None ≡ Some body

-- The body in the slot that an OID leads to is a record with its number, of which this is told.
pub record IsFoundAt (g : Geometry) (image : ℕ → List ℕ) (oid : Oid) (found : Found) : Type 0 where
  pub body : List ℕ
  pub stands : StandsOn image (place_of oid) body
  pub told : IsTold g oid.unique body found

-- The body in the slot that an OID leads to is the record of a large version with this root.
pub record IsRootAt (image : ℕ → List ℕ) (oid : Oid) (root : Root) : Type 0 where
  pub body : List ℕ
  pub stands : StandsOn image (place_of oid) body
  pub is : Record
  pub spelled : BodyOf body is
  pub large : is.content ≡ Large root

-- The body in the slot that an OID leads to is the record of a small version with its number.
pub record IsSmallAt (image : ℕ → List ℕ) (oid : Oid) : Type 0 where
  pub body : List ℕ
  pub stands : StandsOn image (place_of oid) body
  pub is : Record
  pub spelled : BodyOf body is
  pub number : is.head.unique ≡ oid.unique
  pub small : root_of is.content ≡ None

-- What a call has read of a version: what a look for it tells, of which something holds.
pub record IsFoundAnd (g : Geometry) (image : ℕ → List ℕ) (oid : Oid) (Holds : Found → Type 0) : Type 0 where
  pub found : Found
  pub at : IsFoundAt g image oid found
  pub holds : Holds found

-- The version that an OID names is found on a page of a file, and something holds of what is told of it.
pub record IsThereAnd (g : Geometry) (image : ℕ → List ℕ) (oid : Oid) (Holds : Found → Type 0) : Type 0 where
  pub page : IsFoundIn g image oid.page
  pub version : IsFoundAnd g image oid Holds

-- on the way down from a root to each of so many bytes from a position on, each node and the leaf at its end are what names them
abbrev pub HasSoundWay : Geometry → Units → ℕ → ℕ → Root → Type 0
HasSoundWay g units pos len root = (byte : ℕ) → pos ≤ byte → byte < pos + len → IsSoundRoot g units (NamesLeaf g) root byte byte

-- so many bytes from a position on lie inside of a version, and where it is large, the way to them is sound
abbrev pub IsReadThrough : Geometry → Units → ℕ → ℕ → Found → Type 0
IsReadThrough g units pos len found = (pos + len ≤ found.size) × IfSome found.root (HasSoundWay g units pos len)

-- ---- what the calls tell

-- What is told of a body that stands where an OID leads: it is no record; or the numbers of its root are out of their limits.
pub data IsBodyFault (g : Geometry) (oid : Oid) (body : List ℕ) (fault : PortFault) : Type 0 where
  no_record : ((is : Record) → BodyOf body is → ⊥) → fault ≡ record_fault (place_of oid) → IsBodyFault g oid body fault
  bad_root : (is : Record) (root : Root) → BodyOf body is → is.head.unique ≡ oid.unique → is.content ≡ Large root → (IsRootFor g root → ⊥) → fault ≡ root_fault oid.page root → IsBodyFault g oid body fault

-- What a look for the version of an OID tells: of the file of its page, or of the body where it leads.
pub data IsFindingFault (g : Geometry) (image : ℕ → List ℕ) (oid : Oid) (fault : PortFault) : Type 0 where
  in_file : IsBelongingFault g image oid.page.0 fault → IsFindingFault g image oid fault
  at_place : (body : List ℕ) → StandsOn image (place_of oid) body → IsBodyFault g oid body fault → IsFindingFault g image oid fault

-- What is told where the record of a root is written at a place: the port's own faults; that no whole file has a body there that is as long as one of a
-- large version; or that the root is out of its limits.
pub data IsPutFault {S : Type 0} (g : ground.Ghosts S) (s : S) (place : Place) (root : Root) (fault : PortFault) : Type 0 where
  ports : (IsDamage fault → ⊥) → IsPutFault g s place root fault
  no_place : ((index : Index) (was : List ℕ) → HasBody g s index place was → 36 ≤ length was → ⊥) → fault ≡ record_fault place → IsPutFault g s place root fault
  no_limits : (IsRootFor (g.geometry s) root → IsPlaced root.page → ⊥) → fault ≡ root_fault place.page root → IsPutFault g s place root fault

-- What a call on the bytes of a root tells: the port's own faults; of its tree; that the record of the version isn't as the call asks, where `Unlike` says how;
-- or that the root that it made is out of its limits.
pub data IsBytesFault (g : Geometry) (units : Units) (oid : Oid) (root : Root) (Unlike : Type 0) (fault : PortFault) : Type 0 where
  ports_own : (IsDamage fault → ⊥) → IsBytesFault g units oid root Unlike fault
  in_tree : IsRootFault g units root fault → IsBytesFault g units oid root Unlike fault
  unlike : Unlike → fault ≡ record_fault (place_of oid) → IsBytesFault g units oid root Unlike fault
  bad_made : (made : Root) → (IsRootFor g made → IsPlaced made.page → ⊥) → fault ≡ root_fault oid.page made → IsBytesFault g units oid root Unlike fault

-- the root of a version without a tree
abbrev pub no_tree : Root
no_tree = record { height = 0; page = None; size = 0 }

-- What a call on the bytes of a version tells: what a look for it tells; that its record isn't as the call asks, where `Unlike` says how; of a small one what a
-- call on no tree tells; of a large one of its tree.
pub data IsVersionFault (g : Geometry) (units : Units) (image : ℕ → List ℕ) (oid : Oid) (Unlike : Type 0) (fault : PortFault) : Type 0 where
  looking : IsFindingFault g image oid fault → IsVersionFault g units image oid Unlike fault
  not_asked : Unlike → fault ≡ record_fault (place_of oid) → IsVersionFault g units image oid Unlike fault
  small : IsSmallAt image oid → IsBytesFault g units oid no_tree Unlike fault → IsVersionFault g units image oid Unlike fault
  large : (root : Root) → IsRootAt image oid root → IsBytesFault g units oid root Unlike fault → IsVersionFault g units image oid Unlike fault

-- What a read of so many bytes of a version from a position on tells: what a look for it tells; that no version with these bytes is found on a page of a file;
-- or, of a large one, of a page on the way down its tree to one of them.
pub data IsVersionReadFault (g : Geometry) (units : Units) (image : ℕ → List ℕ) (oid : Oid) (pos len : ℕ) (fault : PortFault) : Type 0 where
  finding : IsFindingFault g image oid fault → IsVersionReadFault g units image oid pos len fault
  no_bytes : (IsThereAnd g image oid (λ found. pos + len ≤ found.size) → ⊥) → fault ≡ record_fault (place_of oid) → IsVersionReadFault g units image oid pos len fault
  on_the_way : (root : Root) → IsRootAt image oid root → IsRootReadFault g units root pos len fault → IsVersionReadFault g units image oid pos len fault

-- What is told of a place where a record is read: of the file of its page; or that what stands there isn't as the call asks, where `Unlike` says how.
pub data IsStepFault (g : Geometry) (image : ℕ → List ℕ) (Unlike : Type 0) (place : Place) (fault : PortFault) : Type 0 where
  own : (IsDamage fault → ⊥) → IsStepFault g image Unlike place fault
  of_page : IsBelongingFault g image place.page.0 fault → IsStepFault g image Unlike place fault
  unread : Unlike → fault ≡ record_fault place → IsStepFault g image Unlike place fault

-- A record stands at a place, on a page where one of a file may lie, in the grammar.
pub record HasRecordOn (g : Geometry) (image : ℕ → List ℕ) (place : Place) : Type 0 where
  pub area : IsFilesPage g place.page.0
  pub page : IsPage (image place.page.0)
  pub body : List ℕ
  pub stands : StandsOn image place body
  pub is : Record
  pub spelled : BodyOf body is

-- no record stands at a place that comes behind the one before
abbrev pub LacksRecord : Geometry → (ℕ → List ℕ) → Option Place → Place → Type 0
LacksRecord g image after place = start_rank after ≤ rank_of place → HasRecordOn g image place → ⊥

-- The page of a place is found by a look at the pages of the file from that of the place before it on.
abbrev pub ComesNext : Geometry → (ℕ → List ℕ) → ℕ → Option Place → Place → Type 0
ComesNext g image file_no after place = HasListed image file_no (λ index. IsLook g image index (page_from after) (Some place.page))

-- A walk over the places of a file comes to a place, each behind the one before it.
pub data IsWalkedTo (g : Geometry) (image : ℕ → List ℕ) (file_no : ℕ) : Option Place → Type 0 where
  at_front : IsWalkedTo g image file_no None
  on_to : (after : Option Place) (place : Place) → IsWalkedTo g image file_no after → ComesNext g image file_no after place → start_rank after ≤ rank_of place → IsWalkedTo g image file_no (Some place)

-- A walk over the places of a file comes to an end: no page is found behind the last place.
pub record IsWalkedOut (g : Geometry) (image : ℕ → List ℕ) (file_no : ℕ) : Type 0 where
  pub last : Option Place
  pub walked : IsWalkedTo g image file_no last
  pub ends : HasListed image file_no (λ index. IsLook g image index (page_from last) None)

-- What a walk over the versions of a file tells: of its pages behind a place that it comes to; or of the place that comes next.
pub data IsListingFault (g : Geometry) (image : ℕ → List ℕ) (file_no : ℕ) (fault : PortFault) : Type 0 where
  walking : (after : Option Place) → IsWalkedTo g image file_no after → IsListedFault image file_no (λ index. IsLookFault g every_page image index (page_from after) fault) fault → IsListingFault g image file_no fault
  stepping : (after : Option Place) (place : Place) → IsWalkedTo g image file_no after → ComesNext g image file_no after place → IsStepFault g image (LacksRecord g image after place) place fault → IsListingFault g image file_no fault
