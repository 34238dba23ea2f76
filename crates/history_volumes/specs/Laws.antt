-- What holds of histories of volumes.
use Rattle.std.specs.Prelude.{◌≡◌, ◌↔◌, ◌≤◌, ℕ, List, length, map, Contains}
use Rattle.std.specs.List.{AllByRecursion, flat_map}
use Rattle.ex_base.specs.declared.geometry.Geometry.{Geometry}
use Rattle.ex_base.specs.Area.{InPageArea, NamesLeaf}
use Rattle.ex_base.specs.Order.{AllDiffer}
use Rattle.ex_base.specs.Sizes.{leaf_bytes}
use Rattle.op_log.specs.declared.record.LogRecord.{LogRecord}
use Rattle.table_model.specs.Tables.{IsTable}
use Rattle.trees.specs.Trees.{Units, HasSize, IsNamed, bytes_on, root_units, shape_on, units_on}
use Rattle.volume_model.specs.Parts.{HoldsOf, content_parts}
use Rattle.volume_model.specs.Volume.{Volume, reach_of, roots_in, stored_in, table_of}
use Rattle.history_model.specs.Dumps.{IsHistoryOf}
use Rattle.history_model.specs.History.{History}
use Rattle.history_model.specs.Items.{AreItems}
use Rattle.history_model.specs.Trees.{IsUnder, bytes_under, pieces_under, shape_under}
use Rattle.history_volumes.specs.Histories.{IsHistoryOn, leaf_pages, leaves_named, node_pages}
use Rattle.history_volumes.specs.Transcribed.{AreTranscribed, piece_place, place_of}
use Rattle.history_volumes.specs.Walks.{bytes_named}

-- ---- a tree of a history and the one that it is transcribed to

-- The one at the place of the other is well formed, and both spell the same bytes, with one shape, over the same pieces.
pub record IsTreeThere (g : Geometry) (h : History) (units : Units) (leaf node : ℕ → ℕ) (l number n : ℕ) : Type 0 where
  pub named : IsNamed g units l (place_of leaf node l number)
  pub sized : HasSize g units l (place_of leaf node l number) n
  pub bytes : bytes_under h l number n ≡ bytes_on units l (place_of leaf node l number) n
  pub shape : shape_under h l number n ≡ shape_on units l (place_of leaf node l number) n
  pub units_are : units_on units l (place_of leaf node l number) ≡ map (piece_place leaf node) (pieces_under h l number)

abbrev pub TreesAreThere : Type 0
TreesAreThere = (g : Geometry) (h : History) (units : Units) (leaf node : ℕ → ℕ) (l number n : ℕ)
    → AreTranscribed g h units leaf node → IsUnder h l number n → IsTreeThere g h units leaf node l number n

-- ---- the history of a volume

-- Its leaves are the units of the segment area that the volume reaches, and its nodes the pages of trees that it reaches, each once.
pub record HasEachOnce (g : Geometry) (units : Units) (v : Volume) : Type 0 where
  pub leaves_differ : AllDiffer (leaf_pages units v)
  pub nodes_differ : AllDiffer (node_pages units v)
  pub leaves : (unit : ℕ) → Contains (leaf_pages units v) unit ↔ (NamesLeaf g unit × Contains (reach_of units v) unit)
  pub nodes : (unit : ℕ) → Contains (node_pages units v) unit ↔ (InPageArea g unit × Contains (flat_map (root_units units) (roots_in (stored_in v))) unit)

abbrev pub EachIsThereOnce : Type 0
EachIsThereOnce = (g : Geometry) (records : List LogRecord) (units : Units) (v : Volume) → AllByRecursion (HoldsOf g records units v) content_parts → HasEachOnce g units v

-- It is a history of the volume's table.
abbrev pub HistoriesAreOfTables : Type 0
HistoriesAreOfTables = (g : Geometry) (records : List LogRecord) (units : Units) (v : Volume) (h : History)
    → AllByRecursion (HoldsOf g records units v) content_parts → IsTable g (table_of units v) → AreItems g h → IsHistoryOn g units v h → IsHistoryOf g h (table_of units v)

-- The items of its stream are within their limits, where a page of the page area has the bytes of a page.
abbrev pub ItemsAreWhole : Type 0
ItemsAreWhole = (g : Geometry) (records : List LogRecord) (units : Units) (v : Volume) (h : History)
    → AllByRecursion (HoldsOf g records units v) content_parts → IsTable g (table_of units v)
    → ((page : ℕ) → InPageArea g page → length (units page) ≤ g.page_size)
    → IsHistoryOn g units v h → AreItems g h

-- So it is a history of the volume's table whatever its items are.
abbrev pub HistoriesAreWhole : Type 0
HistoriesAreWhole = (g : Geometry) (records : List LogRecord) (units : Units) (v : Volume) (h : History)
    → AllByRecursion (HoldsOf g records units v) content_parts → IsTable g (table_of units v)
    → ((page : ℕ) → InPageArea g page → length (units page) ≤ g.page_size)
    → IsHistoryOn g units v h → IsHistoryOf g h (table_of units v)

-- A volume whose leaves have all bytes of their units has a history: its leaves are as long as is named of them at most.
abbrev pub VolumesHaveHistories : Type 0
VolumesHaveHistories = (g : Geometry) (records : List LogRecord) (units : Units) (v : Volume)
    → AllByRecursion (HoldsOf g records units v) content_parts → ((page : ℕ) → NamesLeaf g page → leaf_bytes g ≤ length (units page))
    → (h : History) × IsHistoryOn g units v h × (map length h.leaves ≡ map bytes_named (leaves_named units v))
