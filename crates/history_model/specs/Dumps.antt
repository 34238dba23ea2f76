-- When a stream is a dump of a table.
use Rattle.std.specs.Prelude.{◌≡◌, ℕ, zero, suc, ◌≤◌, ◌==◌, if◌then◌else◌, List, [], ◌∷◌, ◌++◌, length, map, Option, Some, Contains}
use Rattle.std.specs.List.{flat_map, AllZip}
use Rattle.ex_base.specs.declared.geometry.Geometry.{Geometry}
use Rattle.ex_base.specs.declared.names.PageNo.{PageNo}
use Rattle.object_records.specs.Record.{Content, Small, Large}
use Rattle.table_model.specs.declared.table.Table.{Table}
use Rattle.table_model.specs.declared.table.TableFile.{TableFile}
use Rattle.table_model.specs.Tables.{IsTable, all_in, objects_of}
use Rattle.version_lists.specs.declared.version.Version.{Version}
use Rattle.version_lists.specs.declared.version.Object.{Object}
use Rattle.version_lists.specs.Versions.{unique_of}
use Rattle.trees.specs.Node.{Node}
use Rattle.trees.specs.Trees.{for_each_child}
use Rattle.history_model.specs.History.{History, HistoryFile, HistoryVersion, all_versions}
use Rattle.history_model.specs.Items.{AreItems}
use Rattle.history_model.specs.Stream.{stream_of}
use Rattle.history_model.specs.FilePages.{pages_needed}
use Rattle.history_model.specs.Trees.{Piece, LeafPiece, NodePiece, Gives, pieces_of}

-- ---- its versions

-- the version is this one of a table, wherever that lies
pub record IsVersionOf (g : Geometry) (h : History) (v : HistoryVersion) (w : Version) : Type 0 where
  pub unique : v.unique ≡ unique_of w
  pub state : v.frozen ≡ w.frozen
  pub older : v.older ≡ w.older
  pub bytes : Gives g h v.content w.bytes

-- the file is this one, with its versions in order of their numbers
pub record IsFileOf (g : Geometry) (h : History) (f : HistoryFile) (t : TableFile) : Type 0 where
  pub name : f.name ≡ t.name
  pub versions : AllZip (IsVersionOf g h) f.versions (all_in t)

-- ---- its leaves and nodes

-- each naming of a leaf: its number, and how many bytes of it are named
abbrev pub namings_on : Node → List (ℕ × ℕ)
namings_on node = if node.level == 1 then for_each_child (λ (number n : ℕ). (number, n)) 0 node.pairs else []

abbrev pub namings_at : ℕ → ℕ → Option PageNo → List (ℕ × ℕ)
namings_at zero size (Some number) = (number.0, size) ∷ []
namings_at height size root = []

abbrev pub namings_by : Content → List (ℕ × ℕ)
namings_by (Small held) = []
namings_by (Large root) = namings_at root.height root.size root.page

abbrev pub namings : History → List (ℕ × ℕ)
namings h = flat_map namings_on h.nodes ++ flat_map (λ (v : HistoryVersion). namings_by v.content) (all_versions h)

-- the leaf is as long as the longest naming of it
pub record IsAsNamed (h : History) (number : ℕ) (leaf : List ℕ) : Type 0 where
  pub there : Contains (namings h) (number, length leaf)
  pub most : (n : ℕ) → Contains (namings h) (number, n) → n ≤ length leaf

abbrev pub AreAsNamed : History → ℕ → List (List ℕ) → Type 0
AreAsNamed h number [] = Unit {0}
AreAsNamed h number (leaf ∷ leaves) = IsAsNamed h number leaf × AreAsNamed h (suc number) leaves

-- a version's tree has the leaf or node
abbrev pub Has : History → HistoryVersion → Piece → Type 0
Has h v piece = Contains (pieces_of h v.content) piece

-- the tree of some version has it
abbrev pub IsNamed : History → Piece → Type 0
IsNamed h piece = (v : HistoryVersion) × Contains (all_versions h) v × Has h v piece

-- the table has an object with versions of both numbers
abbrev pub AreOfOne : Table → ℕ → ℕ → Type 0
AreOfOne t a b = (o : Object) × Contains (objects_of t) o × Contains (map unique_of o.versions) a × Contains (map unique_of o.versions) b

-- ---- a dump

-- The history is that of this table, for volumes of this page size, unit length and fan.
pub record IsHistoryOf (g : Geometry) (h : History) (t : Table) : Type 0 where
  pub items : AreItems g h
  pub rules : IsTable g t
  pub next_unique : h.next_unique ≡ t.next_unique
  pub last : h.last ≡ t.last
  pub files : AllZip (IsFileOf g h) h.files t.files
  -- Every leaf and node is named, and a leaf is as long as its longest naming.
  pub leaves_named : (number : ℕ) → 1 ≤ number → number ≤ length h.leaves → IsNamed h (LeafPiece number)
  pub nodes_named : (number : ℕ) → 1 ≤ number → number ≤ length h.nodes → IsNamed h (NodePiece number)
  pub lengths : AreAsNamed h 1 h.leaves
  -- None is named by versions of two objects.
  pub apart : (v w : HistoryVersion) (piece : Piece) → Contains (all_versions h) v → Contains (all_versions h) w → Has h v piece → Has h w piece → AreOfOne t v.unique w.unique
  pub pages : h.pages ≡ pages_needed g.page_size h

-- The stream is a dump of the table.
pub record IsDump (stream : List ℕ) (g : Geometry) (t : Table) : Type 0 where
  pub history : History
  pub spelled : stream ≡ stream_of g history
  pub of : IsHistoryOf g history t

-- The stream is no dump for volumes of these sizes.
abbrev pub IsNoDump : List ℕ → Geometry → Type 0
IsNoDump stream g = (t : Table) → IsDump stream g t → ⊥

-- ---- tables that differ in places alone

pub record SameVersion (v w : Version) : Type 0 where
  pub unique : unique_of v ≡ unique_of w
  pub state : v.frozen ≡ w.frozen
  pub older : v.older ≡ w.older
  pub bytes : v.bytes ≡ w.bytes

pub record SameFile (f k : TableFile) : Type 0 where
  pub name : f.name ≡ k.name
  pub versions : AllZip SameVersion (all_in f) (all_in k)

pub record SameButPlaces (t u : Table) : Type 0 where
  pub next_unique : t.next_unique ≡ u.next_unique
  pub last : t.last ≡ u.last
  pub files : AllZip SameFile t.files u.files
