-- What a load wrote, and what a walk over it found.
use Rattle.std.specs.Prelude.{ℕ, List, ◌∷◌, Contains}
use Rattle.std.specs.List.{AllByRecursion, AllZip, flat_map, zip}
use Rattle.ex_base.specs.declared.geometry.Geometry.{Geometry}
use Rattle.ex_base.specs.Area.{catalog_no}
use Rattle.ex_base.specs.Order.{AllDiffer}
use Rattle.object_files.specs.Catalog.{Catalog, FileEntry}
use Rattle.trees.specs.Trees.{Units}
use Rattle.volume_model.specs.Parts.{HasIndex, HasPages, IsStored, bodies_in}
use Rattle.volume_model.specs.Volume.{FileContent, pages_of_file}
use Rattle.restart.specs.Content.{FilesHold, volume_of}
use Rattle.history_model.specs.History.{History}
use Rattle.history_model.specs.Trees.{Piece}
use Rattle.history_volumes.specs.Histories.{IsFileOn}
use Rattle.history_volumes.specs.Transcribed.{AreTranscribed, piece_place}
use Rattle.history_writes.specs.Files.{HasNewer, HasOlder}
use Rattle.history_load.specs.Pieces.{IsPieceOf}
use Rattle.history_load.specs.Placed.{LieApart, tree_units}

-- The history stands on the units behind these entries of a catalog: its leaves and nodes at places of their own, and its files version for version, each with
-- a whole index and a record in each slot.
pub record IsWrittenAt (g : Geometry) (units : Units) (h : History) (entries : List FileEntry) (leaf node : ℕ → ℕ) : Type 0 where
  pub transcribed : AreTranscribed g h units leaf node
  pub apart : LieApart h leaf node
  pub contents : List FileContent
  pub indexes : AllZip (HasIndex g units) entries contents
  pub pages : AllZip (HasPages units) entries contents
  pub records : AllByRecursion (λ (file : FileContent). AllZip IsStored (bodies_in file) file.stored) contents
  pub on : AllZip (IsFileOn leaf node) h.files (zip entries contents)

-- The links of records lead to records of their files, no page of a file is there twice, and no leaf or node lies at one of these or at the catalog's page.
pub record AreWellPlaced (h : History) (contents : List FileContent) (leaf node : ℕ → ℕ) : Type 0 where
  pub older : AllByRecursion (λ (file : FileContent). AllByRecursion (HasOlder file.stored) file.stored) contents
  pub newer : AllByRecursion (λ (file : FileContent). AllByRecursion (HasNewer file.stored) file.stored) contents
  pub differ : AllDiffer (flat_map pages_of_file contents)
  pub off : (piece : Piece) → IsPieceOf h piece → ¬ Contains (catalog_no ∷ flat_map pages_of_file contents) (piece_place leaf node piece)

-- Behind the catalog the units hold files with all parts, and each piece of the history is a unit of one of their trees.
pub record HoldsPieces (g : Geometry) (units : Units) (c : Catalog) (h : History) (leaf node : ℕ → ℕ) : Type 0 where
  pub files : List FileContent
  pub holds : FilesHold g units c 6 files
  pub reached : (piece : Piece) → IsPieceOf h piece → Contains (tree_units units (volume_of c files)) (piece_place leaf node piece)
