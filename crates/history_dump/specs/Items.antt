-- What is read of a volume is an item of a stream.
use Rattle.std.specs.Prelude.{◌≡◌, ◌≤◌, ◌<◌, ◌-◌, ◌^◌, ℕ, List, length, map, take, Option, Some, None, slice_get}
use Rattle.std.specs.List.{AllZip}
use Rattle.std.specs.Option.{option_map}
use Rattle.ex_base.specs.declared.ground.Ground as ground
use Rattle.ex_base.specs.declared.names.Index.{Index}
use Rattle.ex_base.specs.declared.names.PageNo.{PageNo}
use Rattle.ex_base.specs.declared.names.Place.{Place}
use Rattle.ex_base.specs.Area.{InPageArea, NamesLeaf, catalog_no}
use Rattle.ex_base.specs.Order.{AllDiffer}
use Rattle.ex_base.specs.Sizes.{leaf_bytes}
use Rattle.object_files.specs.Catalog.{CatalogOf, Catalog, FileEntry}
use Rattle.object_records.specs.Record.{BodyOf, Content, Large, Record, Small}
use Rattle.file_bodies.specs.Bodies.{bodies_of}
use Rattle.file_bodies.specs.Files.{HasBody, HasFile}
use Rattle.trees.specs.declared.Pair.{Pair}
use Rattle.trees.specs.Node.{Node, PairsOf}
use Rattle.version_lists.specs.Sorted.{in_order}
use Rattle.versions.specs.Listed.{AreReadable}
use Rattle.volume_edits.specs.Ported.{index_named}
use Rattle.volume_model.specs.Volume.{is_frozen}
use Rattle.record_lists.specs.declared.Listed.{Listed}
use Rattle.record_lists.specs.Listed.{listed_of}
use Rattle.history_model.specs.History.{History, HistoryFile, HistoryVersion}
use Rattle.history_model.specs.Stream.{head_of}
use Rattle.history_volumes.specs.Transcribed.{number_in}
use Rattle.history_plans.specs.Plans.{StreamPlan, number_listed, pages_at}

-- ---- leaves and nodes

-- The unit of a leaf begins with these bytes, as many as are planned of it.
pub record IsPlannedLeaf {S : Type 0} (g : ground.Ghosts S) (s : S) (leaf : ℕ × ℕ) (bytes : List ℕ) : Type 0 where
  pub area : NamesLeaf (g.geometry s) leaf.0
  pub len : leaf.1 ≡ length bytes
  pub short : length bytes ≤ leaf_bytes (g.geometry s)
  pub front : take (length bytes) (g.unit s leaf.0) ≡ bytes

-- The pair names the child that the plan gives this number.
pub record IsNumbered (pages : List ℕ) (pair numbered : Pair) : Type 0 where
  pub count : numbered.count ≡ pair.count
  pub number : number_in pages pair.page.0 ≡ Some numbered.page.0

-- The page is this node, each child by its number in the place of its page.
pub record IsPlannedNode {S : Type 0} (g : ground.Ghosts S) (s : S) (plan : StreamPlan) (page : ℕ) (node : Node) : Type 0 where
  pub area : InPageArea (g.geometry s) page
  pub pairs : List Pair
  pub spelled : PairsOf (g.geometry s).fan (g.unit s page) node.level pairs
  pub numbered : AllZip (IsNumbered (pages_at (node.level - 1) plan)) pairs node.pairs

-- ---- versions

-- the number of the root page of a tree, if it has one
abbrev pub page_numbered : List ℕ → Option PageNo → Option (Option PageNo)
page_numbered pages None = Some None
page_numbered pages (Some page) = option_map (λ (n : ℕ). Some (record { 0 = n })) (number_in pages page.0)

-- The content is that of a record, with the number of its root in the place of the root's page.
abbrev pub IsNumberedContent : StreamPlan → Content → Content → Type 0
IsNumberedContent plan (Small bytes) content = content ≡ Small bytes
IsNumberedContent plan (Large root) content =
    (number : Option PageNo) × (page_numbered (pages_at root.height plan) root.page ≡ Some number)
    × (content ≡ Large (record { height = root.height; page = number; size = root.size }))

-- The record at an older place, if there is one, is that of a version with this number.
abbrev pub IsOlderNumber : {S : Type 0} → ground.Ghosts S → S → Index → Option Place → Option ℕ → Type 0
IsOlderNumber g s index None number = number ≡ None
IsOlderNumber g s index (Some place) number = (body : List ℕ) × (is : Record) × HasBody g s index place body × BodyOf body is × (number ≡ Some is.head.unique)

-- The record is that of this version, derived from the version with this number.
pub record IsVersionOf (plan : StreamPlan) (is : Record) (older : Option ℕ) (v : HistoryVersion) : Type 0 where
  pub unique : v.unique ≡ is.head.unique
  pub state : v.frozen ≡ is_frozen is.head.state
  pub older_is : v.older ≡ older
  pub content : IsNumberedContent plan is.content v.content

-- The record that was listed is that of this version.
pub record IsListedVersion {S : Type 0} (g : ground.Ghosts S) (s : S) (plan : StreamPlan) (index : Index) (listed : Listed) (v : HistoryVersion) : Type 0 where
  pub body : List ℕ
  pub is : Record
  pub stands : HasBody g s index listed.place body
  pub spelled : BodyOf body is
  pub head : listed.head ≡ is.head
  pub older : IsOlderNumber g s index is.head.older v.older
  pub version : IsVersionOf plan is v.older v

-- ---- files

-- the records of a file in order of the numbers of their versions
abbrev pub records_of : (ℕ → List ℕ) → Index → List Listed
records_of image index = in_order number_listed (map listed_of (bodies_of image index))

-- The entry at an index of the catalog is that of this file, whose records in order of their numbers are those of its versions.
pub record IsListedFile {S : Type 0} (g : ground.Ghosts S) (s : S) (plan : StreamPlan) (at : ℕ) (f : HistoryFile) : Type 0 where
  pub catalog : Catalog
  pub spelled : CatalogOf (g.image s catalog_no) catalog
  pub entry : FileEntry
  pub entry_is : slice_get catalog.entries at ≡ Some entry
  pub name : f.name ≡ entry.name
  pub file : HasFile g s (index_named entry)
  pub readable : AreReadable (bodies_of (g.image s) (index_named entry))
  pub differ : AllDiffer (map number_listed (map listed_of (bodies_of (g.image s) (index_named entry))))
  pub versions : AllZip (IsListedVersion g s plan (index_named entry)) (records_of (g.image s) (index_named entry)) f.versions
  pub few : length f.versions < 2 ^ 32

-- ---- all items

-- What is read of the volume by the plan are the items of the stream of this history.
pub record ShowsStream {S : Type 0} (g : ground.Ghosts S) (s : S) (plan : StreamPlan) (h : History) : Type 0 where
  pub head : plan.head ≡ head_of (g.geometry s) h
  pub leaves : AllZip (IsPlannedLeaf g s) plan.leaves h.leaves
  pub nodes : AllZip (IsPlannedNode g s plan) plan.nodes h.nodes
  pub files : (at : ℕ) (f : HistoryFile) → slice_get h.files at ≡ Some f → IsListedFile g s plan at f
