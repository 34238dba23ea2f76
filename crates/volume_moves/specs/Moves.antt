-- What it makes of a volume that a version's tree gives way to another one of the same bytes.
use Rattle.std.specs.Prelude.{◌≡◌, ◌≢◌, ◌⊎◌, ℕ, ◌+◌, ◌≤◌, true, false, List, [], ◌∷◌, ◌++◌, Some, Contains}
use Rattle.std.specs.List.{AllByRecursion}
use Rattle.ex_base.specs.declared.ground.Ground as ground
use Rattle.ex_base.specs.declared.names.Index.{Index}
use Rattle.ex_base.specs.declared.names.Oid.{Oid}
use Rattle.ex_base.specs.declared.names.Place.{Place}
use Rattle.ex_base.specs.declared.names.Root.{Root}
use Rattle.ex_base.specs.Ports.{times}
use Rattle.file_bodies.specs.Bodies.{EditsRow, bodies_of, pages_in}
use Rattle.file_bodies.specs.Files.{HasFile}
use Rattle.object_records.specs.Record.{Large}
use Rattle.object_records.specs.declared.Head.{Head}
use Rattle.op_log.specs.declared.record.LogRecord.{LogRecord}
use Rattle.trees.specs.Counted.{Counted, NamesPairs}
use Rattle.trees.specs.Damage.{IsWhole}
use Rattle.trees.specs.Made.{Has, IsTaken}
use Rattle.trees.specs.Owners.{root_pages}
use Rattle.trees.specs.Trees.{Units, root_units}
use Rattle.versions.specs.Versions.{HasVersion, place_of}
use Rattle.volume_model.specs.Links.{HasObjects, stored_units}
use Rattle.volume_model.specs.Volume.{Stored, Volume, file_pages, oid_of, roots_in, stored_in, table_of}
use Rattle.volume_edits.specs.Edits.{trees_of}
use Rattle.volume_edits.specs.Ported.{IsVolume, units_in}

-- ---- objects

-- The records at two places are of one object, in whichever way objects are told.
abbrev pub AreOfOneObject : Units → List Stored → Place → Place → Type 0
AreOfOneObject units stored a b = (told : HasObjects units stored) → told.object a ≡ told.object b

-- No record of another object has the unit in its tree.
abbrev pub IsOfNoOther : Units → Volume → Place → ℕ → Type 0
IsOfNoOther units v place u = (s : Stored) → Contains (stored_in v) s → Contains (stored_units units s) u → AreOfOneObject units (stored_in v) s.place place

-- A unit was free, is one of the tree that goes, or is in no tree of another object than that of the record at a place.
pub data IsObjectUnit {S : Type 0} (g : ground.Ghosts S) (old : S) (v : Volume) (place : Place) (gone : Root) (u : ℕ) : Type 0 where
  free : g.used old u ≡ false → IsObjectUnit g old v place gone u
  kept : Contains (root_units (g.unit old) gone) u → IsObjectUnit g old v place gone u
  apart : IsOfNoOther (units_in g old) v place u → IsObjectUnit g old v place gone u

-- ---- a root that is installed

-- The record of a version gets another root that spells the same bytes: in its file this one record changes, in its place and with its head. Each unit that was
-- taken is one of the new tree. No other logged page changes, none is taken or given back, and every unit in use keeps its bytes.
pub record InstallsRoot {S : Type 0} (g : ground.Ghosts S) (old new : S) (index : Index) (oid : Oid) (head : Head) (come : Root) (bytes : List ℕ) : Type 0 where
  pub version : HasVersion g new index oid head (Large come) bytes
  pub was : List ℕ
  pub is : List ℕ
  pub rows : EditsRow (bodies_of (g.image old) index) (bodies_of (g.image new) index) (place_of oid) (Some was) (Some is)
  pub file : HasFile g new index
  pub pages : pages_in (g.image new) index ≡ pages_in (g.image old) index
  pub images : (page : ℕ) → g.held old page ≡ true → page ≢ oid.page.0 → g.image new page ≡ g.image old page
  pub held : g.held new ≡ g.held old
  pub used : (unit : ℕ) → g.used old unit ≡ true → g.used new unit ≡ true
  pub kept : (unit : ℕ) → g.used old unit ≡ true → g.unit new unit ≡ g.unit old unit
  pub all : (unit : ℕ) → IsTaken g old new unit → Has (root_units (g.unit new) come) unit
  pub counts : NamesPairs g → Counted g old new

-- ---- the volume then

-- The roots of the new volume are those of the old one without the one that went and with the one that came, each as often as it is named. Both trees are whole.
-- The nodes that were taken are counted, and none of them is a logged page. No unit of the tree that came is one, and it has every other unit that was taken.
pub record ReplacesRoot {S : Type 0} (g : ground.Ghosts S) (old new : S) (v now : Volume) (gone come : Root) : Type 0 where
  pub roots : (p : ℕ) → times p (root_pages (roots_in (stored_in now))) + times p (root_pages (gone ∷ [])) ≡ times p (root_pages (roots_in (stored_in v))) + times p (root_pages (come ∷ []))
  pub there : (p : ℕ) → times p (root_pages (gone ∷ [])) ≤ times p (root_pages (roots_in (stored_in v)))
  pub went : IsWhole (g.geometry old) (g.unit old) gone
  pub came : IsWhole (g.geometry new) (g.unit new) come
  pub counts : NamesPairs g → Counted g old new
  pub apart : (names : NamesPairs g) → AllByRecursion (λ p. g.held new p ≡ false) (counts names).nodes
  pub own : (p : ℕ) → Contains (root_units (g.unit new) come) p → (g.used new p ≡ true) × (g.held new p ≡ false)
  pub tree : (p : ℕ) → IsTaken g old new p → g.held new p ≡ false → Contains (root_units (g.unit new) come) p

-- The volumes have the same records, but that the one with this OID has another root.
pub record TurnsRecord (v now : Volume) (oid : Oid) (gone come : Root) : Type 0 where
  pub front : List Stored
  pub back : List Stored
  pub was : Stored
  pub is : Stored
  pub before : stored_in v ≡ front ++ (was ∷ back)
  pub after : stored_in now ≡ front ++ (is ∷ back)
  pub was_oid : oid_of was ≡ oid
  pub is_oid : oid_of is ≡ oid
  pub was_root : was.body.content ≡ Large gone
  pub is_root : is.body.content ≡ Large come

-- The port's working state becomes a volume of the same table, with the same catalog and the same pages, in which one record has another root. Each
-- unit of its trees is one of before or of the tree that came.
pub record MovesTree {S : Type 0} (g : ground.Ghosts S) (old new : S) (records : List LogRecord) (v : Volume) (oid : Oid) (gone come : Root) : Type 0 where
  pub now : Volume
  pub volume : IsVolume g new records now
  pub table : table_of (units_in g new) now ≡ table_of (units_in g old) v
  pub catalog : now.catalog ≡ v.catalog
  pub pages : file_pages now ≡ file_pages v
  pub units : (u : ℕ) → Contains (trees_of (units_in g new) now) u → Contains (trees_of (units_in g old) v) u ⊎ Contains (root_units (g.unit new) come) u
  pub turns : TurnsRecord v now oid gone come
  pub replaced : ReplacesRoot g old new v now gone come
