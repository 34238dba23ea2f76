-- A volume, decoded, and the table that it gives.
use Rattle.std.specs.Prelude.{ℕ, Bool, true, false, List, [], ◌∷◌, ◌++◌, map, find, Option, Some, None}
use Rattle.std.specs.List.{flat_map, zip}
use Rattle.ex_base.specs.declared.geometry.Geometry.{Geometry}
use Rattle.ex_base.specs.declared.names.Place.{Place}
use Rattle.ex_base.specs.declared.names.Oid.{Oid}
use Rattle.ex_base.specs.declared.names.Root.{Root}
use Rattle.ex_base.specs.Area.{catalog_no}
use Rattle.ex_base.specs.Places.{same_place}
use Rattle.op_log.specs.declared.record.LogRecord.{LogRecord}
use Rattle.op_log.specs.AfterLog.{after_log}
use Rattle.slotted_pages.specs.FilePage.{FilePage}
use Rattle.object_records.specs.Record.{Record, Content, Small, Large}
use Rattle.object_records.specs.declared.State.{State}
use Rattle.object_records.specs.declared.State.TheVariants.{Current, Frozen}
use Rattle.object_files.specs.Catalog.{Catalog, FileEntry}
use Rattle.trees.specs.Trees.{Units, root_bytes, root_units, units_from}
use Rattle.version_lists.specs.declared.version.Version.{Version}
use Rattle.version_lists.specs.Sorted.{in_order}
use Rattle.version_lists.specs.Versions.{unique_of as number_of}
use Rattle.version_lists.specs.Objects.{objects_formed}
use Rattle.table_model.specs.declared.table.TableFile.{TableFile}
use Rattle.table_model.specs.declared.table.Table.{Table}

-- ---- what a volume is read as

-- a record and where it stands
pub record Stored : Type 0 where
  pub place : Place
  pub body : Record

-- a file: the numbers of its pages with records and of its index pages, what stands on each page with records, and its records in order of place
pub record FileContent : Type 0 where
  pub numbers : List ℕ
  pub index_pages : List ℕ
  pub pages : List FilePage
  pub stored : List Stored

-- the catalog, and a file for each of its entries
pub record Volume : Type 0 where
  pub catalog : Catalog
  pub files : List FileContent

-- a disk: its geometry, the records of its log, and the volume after the log
pub record Decoded : Type 0 where
  pub geometry : Geometry
  pub records : List LogRecord
  pub volume : Volume

-- ---- what follows from it

-- all records
abbrev pub stored_in : Volume → List Stored
stored_in v = flat_map (λ (file : FileContent). file.stored) v.files

-- the pages of a file: those with records, and those of its index
abbrev pub pages_of_file : FileContent → List ℕ
pages_of_file file = file.numbers ++ file.index_pages

-- the pages of all files
abbrev pub file_pages : Volume → List ℕ
file_pages v = flat_map pages_of_file v.files

abbrev pub unique_of : Stored → ℕ
unique_of s = s.body.head.unique

abbrev pub lies_at : Place → Stored → Bool
lies_at place s = same_place s.place place

-- the record at a place
abbrev pub stands_at : Place → List Stored → Option Stored
stands_at place stored = find (lies_at place) stored

abbrev pub root_in : Content → List Root
root_in (Small bytes) = []
root_in (Large root) = root ∷ []

-- the roots of large versions
abbrev pub roots_in : List Stored → List Root
roots_in stored = flat_map (λ (s : Stored). root_in s.body.content) stored

-- Every unit that the pages reach: the catalog, the pages of the files, the units of the trees.
abbrev pub reach_of : Units → Volume → List ℕ
reach_of units v = (catalog_no ∷ file_pages v) ++ flat_map (root_units units) (roots_in (stored_in v))

-- ---- its table

abbrev pub content_in : Units → Content → List ℕ
content_in units (Small bytes) = bytes
content_in units (Large root) = root_bytes units root

-- A record is named by its place and its unique number.
abbrev pub oid_of : Stored → Oid
oid_of s = record { page = s.place.page; slot = s.place.slot; unique = s.body.head.unique }

abbrev pub is_frozen : State → Bool
is_frozen Current = false
is_frozen Frozen = true

abbrev pub number_if : Option Stored → Option ℕ
number_if None = None
number_if (Some s) = Some (unique_of s)

-- the number of the record at a place
abbrev pub number_at : List Stored → Option Place → Option ℕ
number_at stored None = None
number_at stored (Some place) = number_if (stands_at place stored)

-- a record as a version: its older one is the record at its older place
abbrev pub version_of : Units → List Stored → Stored → Version
version_of units stored s = record {
  oid = oid_of s;
  frozen = is_frozen s.body.head.state;
  older = number_at stored s.body.head.older;
  bytes = content_in units s.body.content;
}

-- the versions of a file, in order of their numbers
abbrev pub versions_stored : Units → List Stored → List Version
versions_stored units stored = in_order number_of (map (version_of units stored) stored)

abbrev pub file_of : Units → FileEntry × FileContent → TableFile
file_of units row = record { name = row.0.name; objects = objects_formed (versions_stored units row.1.stored) }

-- the table of a decoded volume
abbrev pub table_of : Units → Volume → Table
table_of units v = record { next_unique = v.catalog.next_unique; last = v.catalog.last; files = map (file_of units) (zip v.catalog.entries v.files) }

-- the units of a disk after its log
abbrev pub units_after : Geometry → List LogRecord → List ℕ → Units
units_after g records disk = units_from g (after_log g records disk) disk

abbrev pub units_of : Decoded → List ℕ → Units
units_of d disk = units_after d.geometry d.records disk
