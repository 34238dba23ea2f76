-- What a call asks of the record of a version, and how a record isn't as a call or a link asks, over the images of a volume's pages.
use Rattle.std.specs.Prelude.{◌≡◌, ◌≤◌, ◌+◌, ℕ, Bool, true, List, length, Option, Some, None, IfSome, IsSome, Contains, ⊤}
use Rattle.std.specs.List.{AllByRecursion}
use Rattle.ex_base.specs.declared.geometry.Geometry.{Geometry}
use Rattle.ex_base.specs.declared.names.Area.{Area}
use Rattle.ex_base.specs.declared.names.Index.{Index}
use Rattle.ex_base.specs.declared.names.Oid.{Oid}
use Rattle.ex_base.specs.declared.names.Place.{Place}
use Rattle.ex_base.specs.Area.{InPageArea, catalog_no}
use Rattle.ex_base.specs.Ports.{times}
use Rattle.slotted_pages.specs.FilePage.{room_of}
use Rattle.slotted_pages.specs.Reads.{IsPage}
use Rattle.slotted_pages.specs.Edits.{slots_of}
use Rattle.object_records.specs.Record.{Content, Small, Large, Record, BodyOf}
use Rattle.object_records.specs.Reads.{small_record}
use Rattle.object_records.specs.declared.Head.{Head}
use Rattle.object_records.specs.declared.State.TheVariants.{Current, Frozen}
use Rattle.object_files.specs.Edits.{IsCatalogPage}
use Rattle.file_index.specs.Changes.{count_of}
use Rattle.file_index.specs.Index.{IsIndex}
use Rattle.file_bodies.specs.Bodies.{pages_in}
use Rattle.file_bodies.specs.Files.{IsPageOf, all_pages, index_at}
use Rattle.versions.specs.Versions.{Change, InRange, changed, place_of, record_len}
use Rattle.versions.specs.Found.{size_of}
use Rattle.versions.specs.Edited.{held_in}
use Rattle.versions.specs.Needs.{edit_need}
use Rattle.versions.specs.Damage.{StandsOn, IsThereAnd}
use Rattle.version_tree.specs.Linked.{head_in}
use Rattle.version_tree.specs.Removals.{IsOnlyOn}

-- ---- records of whole files

-- A file is whole on these images: the catalog has its index, which is whole and names pages of the file. No page is named twice, and each is held.
pub record IsWholeFile (g : Geometry) (held : ℕ → Bool) (image : ℕ → List ℕ) (index : Index) : Type 0 where
  pub catalog : IsCatalogPage (image catalog_no)
  pub catalog_held : held catalog_no ≡ true
  pub entry : index_at image index.file_no ≡ Some index
  pub whole : IsIndex g image index.file_no index.level index.root
  pub pages : AllByRecursion (λ page. IsPageOf index.file_no (image page)) (pages_in image index)
  pub once : (page : ℕ) → times page (all_pages image index) ≤ count_of (held page)

-- A whole file has this record, in this body, at this place.
pub record HasRecordIn (g : Geometry) (held : ℕ → Bool) (image : ℕ → List ℕ) (index : Index) (place : Place) (body : List ℕ) (is : Record) : Type 0 where
  pub file : IsWholeFile g held image index
  pub named : Contains (pages_in image index) place.page.0
  pub stands : StandsOn image place body
  pub spelled : BodyOf body is

-- A whole file has some record at this place.
pub record HasSomeRecordIn (g : Geometry) (held : ℕ → Bool) (image : ℕ → List ℕ) (index : Index) (place : Place) : Type 0 where
  pub body : List ℕ
  pub is : Record
  pub has : HasRecordIn g held image index place body is

-- A whole file has the record with a body at a place, and the records that its links name.
pub record HasRelativesIn (g : Geometry) (held : ℕ → Bool) (image : ℕ → List ℕ) (index : Index) (place : Place) (body : List ℕ) : Type 0 where
  pub is : Record
  pub has : HasRecordIn g held image index place body is
  pub older : IfSome is.head.older (HasSomeRecordIn g held image index)
  pub newer : IfSome is.head.newer (HasSomeRecordIn g held image index)

-- no page of a file has the place
abbrev pub IsOffPages : Geometry → (ℕ → List ℕ) → Place → Type 0
IsOffPages g image place = InPageArea g place.page.0 → IsPage (image place.page.0) → ⊥

-- no whole file has the version of an OID
abbrev pub NoFileHas : Geometry → (ℕ → Bool) → (ℕ → List ℕ) → Oid → Type 0
NoFileHas g held image oid = (index : Index) (body : List ℕ) (is : Record) → HasRecordIn g held image index (place_of oid) body is → is.head.unique ≡ oid.unique → ⊥

-- ---- what a version is asked for for

-- the record of a small version of n bytes fits in the place of that of a content on its page
abbrev pub FitsBeside : Geometry → (ℕ → List ℕ) → Place → Content → ℕ → Type 0
FitsBeside g image place (Small held) n = record_len n ≤ record_len (length held) + room_of g.page_size (slots_of (image place.page.0))
FitsBeside g image place (Large root) n = ⊥

-- A version may be changed so, where these units are in use and so many are free: a whole file has its record, which is a current one, the range lies inside it,
-- and where its record doesn't fit its page afterwards, the units that the change asks for are free. Each logged page that is held is in use.
pub record IsChangeable (g : Geometry) (held : ℕ → Bool) (image : ℕ → List ℕ) (oid : Oid) (change : Change) (used : ℕ → Bool) (free : Area → ℕ) : Type 0 where
  pub index : Index
  pub body : List ℕ
  pub is : Record
  pub has : HasRecordIn g held image index (place_of oid) body is
  pub number : is.head.unique ≡ oid.unique
  pub in_use : (page : ℕ) → held page ≡ true → used page ≡ true
  pub current : is.head.state ≡ Current
  pub range : InRange change (size_of is.content)
  pub need : (FitsBeside g image (place_of oid) is.content (length (changed change (held_in is.content))) → ⊥) → (area : Area) → edit_need g change is.content area ≤ free area

-- How the record of a version isn't as a call asks that goes on from it: no page of a file has its place; no whole file has it; or it stands there otherwise.
pub data IsAmiss (g : Geometry) (held : ℕ → Bool) (image : ℕ → List ℕ) (oid : Oid) (Asked : List ℕ → Type 0) : Type 0 where
  off_pages : IsOffPages g image (place_of oid) → IsAmiss g held image oid Asked
  no_version : NoFileHas g held image oid → IsAmiss g held image oid Asked
  otherwise : (body : List ℕ) → StandsOn image (place_of oid) body → (Asked body → ⊥) → IsAmiss g held image oid Asked

-- What a call asks for a version for: to read so many of its first bytes; to read so many of its record, where it was found to be small; to tell the room
-- beside its record; to go on to its relatives; to change its bytes, where these units are in use and so many are free; to freeze it; to derive a version from
-- it; to drop it from between its relatives; or to remove it.
pub data Purpose : Type 0 where
  ToRead : ℕ → Purpose
  ToReadSmall : ℕ → Purpose
  ToMeasure : Purpose
  ToRelate : Purpose
  ToChange : Change → (ℕ → Bool) → (Area → ℕ) → Purpose
  ToFreeze : Purpose
  ToDerive : Purpose
  ToDrop : Purpose
  ToRemove : Purpose

-- The record to which an OID leads isn't as the purpose asks. To be removed it is a current one, and the version that it is derived from has other branches.
abbrev pub IsUnfit : Geometry → (ℕ → Bool) → (ℕ → List ℕ) → Oid → Purpose → Type 0
IsUnfit g held image oid (ToRead end) = IsThereAnd g image oid (λ found. end ≤ found.size) → ⊥
IsUnfit g held image oid (ToReadSmall end) =
    (index : Index) (body : List ℕ) (head : Head) (bytes : List ℕ) → HasRecordIn g held image index (place_of oid) body (small_record head bytes) → end ≤ length bytes → ⊥
IsUnfit g held image oid ToMeasure = IsOffPages g image (place_of oid)
IsUnfit g held image oid ToRelate = IsAmiss g held image oid (λ body. ⊤)
IsUnfit g held image oid (ToChange change used free) = IsChangeable g held image oid change used free → ⊥
IsUnfit g held image oid ToFreeze = IsAmiss g held image oid (λ body. (head_in body).state ≡ Current)
IsUnfit g held image oid ToDerive = IsAmiss g held image oid (λ body. (head_in body).state ≡ Frozen)
IsUnfit g held image oid ToDrop = IsAmiss g held image oid (λ body. ((head_in body).state ≡ Frozen) × IsSome (head_in body).newer)
IsUnfit g held image oid ToRemove = IsAmiss g held image oid (λ body. ((head_in body).state ≡ Current) × (IsOnlyOn image (head_in body).older → ⊥))

-- the body of the record is taken out of its file
abbrev pub TakesBody : Purpose → Type 0
TakesBody ToDrop = ⊤
TakesBody ToRemove = ⊤
TakesBody purpose = ⊥

-- whatever a version is asked for for
abbrev pub anyhow : (Oid → Type 0) → Oid → Purpose → Type 0
anyhow asked oid purpose = asked oid

-- ---- what a link names

-- How the record at a place isn't as the link asks that names it, in the body at another place: no page of a file has the place; no whole file has a record
-- there; an older link names one that isn't frozen; a newer link names one that isn't derived from the record with the link; or no whole file has that record
-- with all that its links name.
pub data IsAstray (g : Geometry) (held : ℕ → Bool) (image : ℕ → List ℕ) (from : Place) (body : List ℕ) (place : Place) : Type 0 where
  nowhere : IsOffPages g image place → IsAstray g held image from body place
  no_record : ((index : Index) → HasSomeRecordIn g held image index place → ⊥) → IsAstray g held image from body place
  not_frozen : (older : List ℕ) → (head_in body).older ≡ Some place → StandsOn image place older → ((head_in older).state ≡ Frozen → ⊥) → IsAstray g held image from body place
  not_derived : (newer : List ℕ) → (head_in body).newer ≡ Some place → StandsOn image place newer → ((head_in newer).older ≡ Some from → ⊥) → IsAstray g held image from body place
  no_relatives : ((index : Index) → HasRelativesIn g held image index from body → ⊥) → IsAstray g held image from body place
