-- The history of a volume.
use Rattle.std.specs.Prelude.{◌≡◌, ℕ, List, [], length, Option, Some, None}
use Rattle.std.specs.List.{flat_map, AllZip, zip}
use Rattle.ex_base.specs.declared.geometry.Geometry.{Geometry}
use Rattle.ex_base.specs.declared.names.PageNo.{PageNo}
use Rattle.ex_base.specs.declared.names.Root.{Root}
use Rattle.object_files.specs.Catalog.{FileEntry}
use Rattle.object_records.specs.Record.{Content, Small, Large}
use Rattle.trees.specs.Trees.{Units}
use Rattle.version_lists.specs.Sorted.{in_order}
use Rattle.volume_model.specs.Volume.{FileContent, Stored, Volume, is_frozen, number_at, roots_in, unique_of}
use Rattle.history_model.specs.Dumps.{AreAsNamed}
use Rattle.history_model.specs.FilePages.{pages_needed}
use Rattle.history_model.specs.History.{History, HistoryFile, HistoryVersion}
use Rattle.history_volumes.specs.Transcribed.{AreTranscribed, at_of, place_of}
use Rattle.history_volumes.specs.Walks.{firsts, root_leaves, root_namings, root_nodes, with_namings}

-- ---- the order of leaves and nodes

-- the roots of a volume by files, and in a file by the numbers of its versions
abbrev pub roots_in_order : Volume → List Root
roots_in_order v = flat_map (λ (f : FileContent). roots_in (in_order unique_of f.stored)) v.files

-- its leaves and its nodes, each where a walk over these roots leaves it first
abbrev pub leaf_pages : Units → Volume → List ℕ
leaf_pages units v = firsts (flat_map (root_leaves units) (roots_in_order v))

-- the leaves, each with as many bytes as are named of it at most
abbrev pub leaves_named : Units → Volume → List (ℕ × ℕ)
leaves_named units v = with_namings [] (flat_map (root_namings units) (roots_in_order v))

abbrev pub node_pages : Units → Volume → List ℕ
node_pages units v = firsts (flat_map (root_nodes units) (roots_in_order v))

-- ---- its versions

-- a page in the place of a number
abbrev pub page_placed : (ℕ → ℕ) → Option PageNo → Option PageNo
page_placed place None = None
page_placed place (Some number) = Some (record { 0 = place number.0 })

abbrev pub root_placed : (ℕ → ℕ) → (ℕ → ℕ) → Root → Root
root_placed leaf node root = record { height = root.height; page = page_placed (place_of leaf node root.height) root.page; size = root.size }

-- the content with its root at its place
abbrev pub content_placed : (ℕ → ℕ) → (ℕ → ℕ) → Content → Content
content_placed leaf node (Small held) = Small held
content_placed leaf node (Large root) = Large (root_placed leaf node root)

-- The version is that of a record of these: its older one is the one at the record's older place, and its tree stands at its place.
pub record IsVersionOn (leaf node : ℕ → ℕ) (stored : List Stored) (v : HistoryVersion) (s : Stored) : Type 0 where
  pub unique : v.unique ≡ unique_of s
  pub state : v.frozen ≡ is_frozen s.body.head.state
  pub older : v.older ≡ number_at stored s.body.head.older
  pub content : s.body.content ≡ content_placed leaf node v.content

-- The file is that of an entry of the catalog, with its versions in order of their numbers.
pub record IsFileOn (leaf node : ℕ → ℕ) (f : HistoryFile) (row : FileEntry × FileContent) : Type 0 where
  pub name : f.name ≡ row.0.name
  pub versions : AllZip (IsVersionOn leaf node row.1.stored) f.versions (in_order unique_of row.1.stored)

-- ---- the whole history

-- The history is that of the volume on these units: its leaves and nodes are those of the volume in order, each once, and a leaf has as many bytes as are
-- named of it at most; its files and versions are the volume's.
pub record IsHistoryOn (g : Geometry) (units : Units) (v : Volume) (h : History) : Type 0 where
  pub leaves : length h.leaves ≡ length (leaf_pages units v)
  pub nodes : length h.nodes ≡ length (node_pages units v)
  pub transcribed : AreTranscribed g h units (at_of (leaf_pages units v)) (at_of (node_pages units v))
  pub lengths : AreAsNamed h 1 h.leaves
  pub files : AllZip (IsFileOn (at_of (leaf_pages units v)) (at_of (node_pages units v))) h.files (zip v.catalog.entries v.files)
  pub next_unique : h.next_unique ≡ v.catalog.next_unique
  pub last : h.last ≡ v.catalog.last
  pub pages : h.pages ≡ pages_needed g.page_size h
