-- What holds of needs, and of items that are read.
use Rattle.std.specs.Prelude.{◌≡◌, ℕ, ◌+◌, ◌<◌, ◌^◌, IsTrue, List, ◌++◌, length, slice_index, Option, Some}
use Rattle.ex_base.specs.declared.geometry.Geometry.{Geometry}
use Rattle.ex_base.specs.Bytes.{IsBytes, bytes_at}
use Rattle.ex_base.specs.Fields.{number_at}
use Rattle.table_model.specs.Words.{is_name}
use Rattle.trees.specs.Node.{Node}
use Rattle.history_model.specs.History.{HistoryVersion}
use Rattle.history_model.specs.Items.{IsLeafItem, IsNodeItem, IsVersionItem}
use Rattle.history_model.specs.Stream.{leaf_item, node_item, version_item}
use Rattle.history_items.specs.Gathering.{item_most}
use Rattle.history_items.specs.Needs.{Needs, need_of_file, need_of_leaf, need_of_node, need_of_version}
use Rattle.history_items.specs.Reads.{file_front, node_read, version_read}

-- ---- needs

abbrev pub LeavesNeed : Type 0
LeavesNeed = (g : Geometry) (bytes : List ℕ) → IsBytes bytes → Needs (List ℕ) (IsLeafItem g) leaf_item (item_most g) bytes (need_of_leaf g bytes)

abbrev pub NodesNeed : Type 0
NodesNeed = (g : Geometry) (leaves before : ℕ) (bytes : List ℕ) → IsBytes bytes → Needs Node (IsNodeItem g leaves before) node_item (item_most g) bytes (need_of_node g leaves before bytes)

-- the head of a file's item: its name, and how many versions follow
pub record FileFront : Type 0 where
  pub name : List ℕ
  pub versions : ℕ

abbrev pub IsFileFront : FileFront → Type 0
IsFileFront f = IsTrue (is_name f.name) × (f.versions < 2 ^ 32)

abbrev pub front_bytes : FileFront → List ℕ
front_bytes f = file_front f.name f.versions

abbrev pub FileHeadsNeed : Type 0
FileHeadsNeed = (g : Geometry) (bytes : List ℕ) → IsBytes bytes → Needs FileFront IsFileFront front_bytes (item_most g) bytes (need_of_file bytes)

abbrev pub VersionsNeed : Type 0
VersionsNeed = (g : Geometry) (leaves nodes : ℕ) (bytes : List ℕ) → IsBytes bytes → Needs HistoryVersion (IsVersionItem g leaves nodes) version_item (item_most g) bytes (need_of_version g leaves nodes bytes)

-- ---- a need stays while it isn't met

abbrev pub NeedStays : (List ℕ → Option ℕ) → Type 0
NeedStays need = (bytes more : List ℕ) (n : ℕ) → need bytes ≡ Some n → length (bytes ++ more) < n → need (bytes ++ more) ≡ Some n

abbrev pub LeafNeedStays : Type 0
LeafNeedStays = (g : Geometry) → NeedStays (need_of_leaf g)

abbrev pub NodeNeedStays : Type 0
NodeNeedStays = (g : Geometry) (leaves before : ℕ) → NeedStays (need_of_node g leaves before)

abbrev pub FileNeedStays : Type 0
FileNeedStays = NeedStays need_of_file

abbrev pub VersionNeedStays : Type 0
VersionNeedStays = (g : Geometry) (leaves nodes : ℕ) → NeedStays (need_of_version g leaves nodes)

-- ---- what is read is what was written

abbrev pub NodesReadBack : Type 0
NodesReadBack = (g : Geometry) (leaves before : ℕ) (node : Node) → IsNodeItem g leaves before node → node_read (node_item node) ≡ node

abbrev pub FileHeadsReadBack : Type 0
FileHeadsReadBack = (f : FileFront) → IsFileFront f
    → (bytes_at (front_bytes f) 1 (slice_index (front_bytes f) 0) ≡ f.name) × (number_at 4 (front_bytes f) (1 + slice_index (front_bytes f) 0) ≡ f.versions)

abbrev pub VersionsReadBack : Type 0
VersionsReadBack = (g : Geometry) (leaves nodes : ℕ) (v : HistoryVersion) → IsVersionItem g leaves nodes v → version_read (version_item v) ≡ v
