-- Files that were written.
use Rattle.std.specs.Prelude.{◌≡◌, ℕ, ◌<◌, ◌≤◌, List, length, Option, None, IfSome, IsSome}
use Rattle.std.specs.List.{AllByRecursion, AllZip, flat_map, zip}
use Rattle.ex_base.specs.declared.geometry.Geometry.{Geometry}
use Rattle.ex_base.specs.declared.names.Place.{Place}
use Rattle.ex_base.specs.Order.{AllDiffer}
use Rattle.object_files.specs.Catalog.{FileEntry}
use Rattle.object_records.specs.declared.State.{State}
use Rattle.object_records.specs.declared.State.TheVariants.{Current, Frozen}
use Rattle.trees.specs.Trees.{Units}
use Rattle.history_model.specs.History.{History, HistoryFile}
use Rattle.history_volumes.specs.Histories.{IsFileOn}
use Rattle.history_volumes.specs.Transcribed.{AreTranscribed}
use Rattle.volume_model.specs.Links.{only_place, stored_from}
use Rattle.volume_model.specs.Parts.{HasIndex, HasPages, IsStored, bodies_in}
use Rattle.volume_model.specs.Volume.{FileContent, Stored, pages_of_file, stands_at}
use Rattle.history_writes.specs.Places.{leaf_place, node_place}

-- the newer place of a record from which these are derived: none of a current one, and of a frozen one that of the only one
abbrev pub newer_for : State → List Stored → Option Place
newer_for Current derived = None
newer_for Frozen derived = only_place derived

abbrev pub HasNewer : List Stored → Stored → Type 0
HasNewer stored s = s.body.head.newer ≡ newer_for s.body.head.state (stored_from s.place stored)

-- An older place is that of a record of the file.
abbrev pub HasOlder : List Stored → Stored → Type 0
HasOlder stored s = IfSome s.body.head.older (λ place. IsSome (stands_at place stored))

-- The files stand behind entries of a catalog, version for version: each with a whole index, on pages from one number up to another.
pub record AreFilesOn (g : Geometry) (units : Units) (first end : ℕ) (files : List HistoryFile) (entries : List FileEntry) : Type 0 where
  pub contents : List FileContent
  pub indexes : AllZip (HasIndex g units) entries contents
  pub pages : AllZip (HasPages units) entries contents
  -- What stands in a slot is a record.
  pub records : AllByRecursion (λ (file : FileContent). AllZip IsStored (bodies_in file) file.stored) contents
  -- Each record is that of its version.
  pub on : AllZip (IsFileOn (leaf_place g) node_place) files (zip entries contents)
  -- Its newer place is that of the only one that is derived from it.
  pub newer : AllByRecursion (λ (file : FileContent). AllByRecursion (HasNewer file.stored) file.stored) contents
  pub placed : AllByRecursion (λ (page : ℕ). (first ≤ page) × (page < end)) (flat_map pages_of_file contents)
  -- An older place is that of a record of its file.
  pub older : AllByRecursion (λ (file : FileContent). AllByRecursion (HasOlder file.stored) file.stored) contents
  -- No page is there twice.
  pub differ : AllDiffer (flat_map pages_of_file contents)

-- A history stands on the units, behind the entries of a catalog: its leaves and nodes at their places, and its files on pages behind them.
pub record IsWritten (g : Geometry) (units : Units) (h : History) (entries : List FileEntry) : Type 0 where
  pub transcribed : AreTranscribed g h units (leaf_place g) node_place
  pub first : ℕ
  pub end : ℕ
  pub behind : node_place (length h.nodes) < first
  pub files : AreFilesOn g units first end h.files entries
