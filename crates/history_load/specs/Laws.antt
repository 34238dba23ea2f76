-- What holds of histories that stand as volumes.
use Rattle.std.specs.Prelude.{◌≡◌, ◌≤◌, ◌<◌, ℕ, suc, List, length}
use Rattle.std.specs.List.{AllByRecursion}
use Rattle.ex_base.specs.declared.geometry.Geometry.{Geometry}
use Rattle.ex_base.specs.declared.names.Area.TheVariants.{Segment}
use Rattle.ex_base.specs.declared.names.Root.{Root}
use Rattle.ex_base.specs.Area.{unit_at}
use Rattle.ex_base.specs.Sizes.{volume_bytes}
use Rattle.object_files.specs.Catalog.{Catalog, CatalogOf}
use Rattle.op_log.specs.declared.record.LogRecord.{LogRecord}
use Rattle.table_model.specs.Tables.{IsTable}
use Rattle.table_model.specs.declared.table.Table.{Table}
use Rattle.trees.specs.Trees.{Units, RootNamed}
use Rattle.volume_model.specs.Homes.{home}
use Rattle.volume_model.specs.Parts.{HasBalance, HoldsOf, content_parts}
use Rattle.volume_model.specs.Volume.{Volume, roots_in, stored_in, table_of}
use Rattle.restart.specs.Content.{volume_of}
use Rattle.history_model.specs.Dumps.{AreAsNamed, IsHistoryOf}
use Rattle.history_model.specs.FilePages.{pages_needed}
use Rattle.history_model.specs.History.{History}
use Rattle.history_model.specs.Items.{AreItems}
use Rattle.history_model.specs.Stream.{stream_of}
use Rattle.history_load.specs.Loads.{LoadsAs}
use Rattle.history_load.specs.Placed.{StandsAs}
use Rattle.history_load.specs.Written.{AreWellPlaced, HoldsPieces, IsWrittenAt}

-- A history whose items are each one, whose leaves are as long as their longest namings and that says how many pages its files need, is one of the table of the
-- volume that it stands as.
abbrev pub StandingHistories : Type 0
StandingHistories = (g : Geometry) (records : List LogRecord) (units : Units) (v : Volume) (h : History) (leaf node : ℕ → ℕ)
    → AllByRecursion (HoldsOf g records units v) content_parts → IsTable g (table_of units v)
    → AreItems g h → AreAsNamed h 1 h.leaves → h.pages ≡ pages_needed g.page_size h
    → StandsAs g units v h leaf node → IsHistoryOf g h (table_of units v)

-- The root names a tree that is well formed and balanced, of the root's size.
pub record IsWholeRoot (g : Geometry) (units : Units) (root : Root) : Type 0 where
  pub named : RootNamed g units root.height root.page
  pub balance : HasBalance g units root

-- Where a dump's pieces and files were written, each tree is whole: that of a walk's tests which hangs on trees alone passes.
abbrev pub WholeTrees : Type 0
WholeTrees = (g : Geometry) (h : History) (t : Table) (units : Units) (c : Catalog) (leaf node : ℕ → ℕ) (w : IsWrittenAt g units h c.entries leaf node)
    → IsHistoryOf g h t → AllByRecursion (IsWholeRoot g units) (roots_in (stored_in (volume_of c w.contents)))

-- The leaves lie at the lowest units of the segment area, in order.
abbrev pub LieLowest : Geometry → History → (ℕ → ℕ) → Type 0
LieLowest g h leaf = (i : ℕ) → i < length h.leaves → leaf (suc i) ≡ unit_at g Segment i

-- A history that was written, its leaves at the lowest units, and of which a walk found each piece, loads once the page with its catalog is committed: as many
-- units of the segment area are reached then as it has leaves.
abbrev pub WrittenLoads : Type 0
WrittenLoads = (g : Geometry) (image page : List ℕ) (c : Catalog) (h : History) (leaf node : ℕ → ℕ)
    → volume_bytes g ≤ length image → CatalogOf page c → length page ≡ g.page_size → h.next_unique ≡ c.next_unique → h.last ≡ c.last
    → AreItems g h → AreAsNamed h 1 h.leaves → h.pages ≡ pages_needed g.page_size h
    → IsWrittenAt g (home g image) h c.entries leaf node → HoldsPieces g (home g image) c h leaf node → LieLowest g h leaf
    → LoadsAs g image (stream_of g h) page c.last (length h.leaves)

-- And where its records are linked and all lies apart, they hold all parts of a volume, each piece in one of its trees.
abbrev pub DumpsHold : Type 0
DumpsHold = (g : Geometry) (h : History) (t : Table) (units : Units) (c : Catalog) (leaf node : ℕ → ℕ) (w : IsWrittenAt g units h c.entries leaf node)
    → AreWellPlaced h w.contents leaf node → h.next_unique ≡ c.next_unique → IsHistoryOf g h t → HoldsPieces g units c h leaf node
