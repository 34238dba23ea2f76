-- The versions of a file as records that name each other's places.
use Rattle.std.specs.Prelude.{◌≡◌, ◌≤◌, ◌<◌, if◌then◌else◌, ℕ, Bool, List, [], ◌∷◌, length, map, filter, Option, Some, None, IfSome}
use Rattle.std.specs.List.{AllByRecursion}
use Rattle.ex_base.specs.declared.ground.Ground as ground
use Rattle.ex_base.specs.declared.geometry.Geometry.{Geometry}
use Rattle.ex_base.specs.declared.names.Oid.{Oid}
use Rattle.ex_base.specs.declared.names.Place.{Place}
use Rattle.object_records.specs.Reads.{record_on}
use Rattle.object_records.specs.declared.Head.{Head}
use Rattle.object_records.specs.declared.State.{State}
use Rattle.object_records.specs.declared.State.TheVariants.{Current, Frozen}
use Rattle.ex_base.specs.declared.names.Index.{Index}
use Rattle.file_bodies.specs.Bodies.{Row, bodies_of}
use Rattle.file_bodies.specs.Files.{HasFile}
use Rattle.versions.specs.Listed.{oid_at}
use Rattle.versions.specs.Found.{IsRecordBody}
pub use Rattle.ex_base.specs.Places.{is_place}
use Rattle.version_tree.specs.Bodies.{body_at}

-- ---- what is derived from a version

-- the head of the record in a body
abbrev pub head_in : List ℕ → Head
head_in body = (record_on body).head

-- it is derived from the version at a place
abbrev pub names_older : Place → Row → Bool
names_older place row = is_place place (head_in row.1).older

abbrev pub derived_from : Place → List Row → List Row
derived_from place rows = filter (names_older place) rows

abbrev pub oid_of_row : Row → Oid
oid_of_row row = oid_at row.0 (head_in row.1).unique

-- the OIDs of the versions that are derived from the one at a place
abbrev pub oids_from : Place → List Row → List Oid
oids_from place rows = map oid_of_row (derived_from place rows)

-- the OID of a version at a place, as a list, where it is derived from the one at another
abbrev pub oids_by_link : Place → Place → Head → List Oid
oids_by_link from place head = if is_place from head.older then oid_at place head.unique ∷ [] else []

-- the place of the only one of these rows
abbrev pub only_place : List Row → Option Place
only_place [] = None
only_place (row ∷ []) = Some row.0
only_place (row ∷ next ∷ rows) = None

-- ---- links

-- At the place is a frozen record, whose number is lower where the one that names it is frozen.
pub record IsOlder (rows : List Row) (head : Head) (place : Place) : Type 0 where
  pub body : List ℕ
  pub there : body_at place rows ≡ Some body
  pub frozen : (head_in body).state ≡ Frozen
  pub lower : head.state ≡ Frozen → (head_in body).unique < head.unique

-- A current record has no newer place. From a frozen one some are derived; its newer place is that of the only one, and none where there are more.
abbrev pub NewerIs : State → List Row → Option Place → Type 0
NewerIs Current derived newer = newer ≡ None
NewerIs Frozen derived newer = (1 ≤ length derived) × (newer ≡ only_place derived)

-- A row is a record in its limits that names records of the same rows as its older and its newer one.
pub record IsLinked (g : Geometry) (rows : List Row) (row : Row) : Type 0 where
  pub readable : IsRecordBody g row.1
  pub older : IfSome (head_in row.1).older (IsOlder rows (head_in row.1))
  pub newer : NewerIs (head_in row.1).state (derived_from row.0 rows) (head_in row.1).newer

-- In each whole file each record is linked.
abbrev pub AreLinked : {S : Type 0} → ground.Ghosts S → S → Type 0
AreLinked g s = (index : Index) → HasFile g s index → AllByRecursion (IsLinked (g.geometry s) (bodies_of (g.image s) index)) (bodies_of (g.image s) index)

-- ---- what is told of a link

-- the OID of the record at a place
pub record IsOidAt (rows : List Row) (place : Place) (oid : Oid) : Type 0 where
  pub body : List ℕ
  pub there : body_at place rows ≡ Some body
  pub is : oid ≡ oid_at place (head_in body).unique

-- the OID of the record at a place that is named, none where none is
abbrev pub OidAt : List Row → Option Place → Option Oid → Type 0
OidAt rows None found = found ≡ None
OidAt rows (Some place) None = ⊥
OidAt rows (Some place) (Some oid) = IsOidAt rows place oid
