-- What the calls on versions make of a volume.
use Rattle.std.specs.Prelude.{◌≡◌, ◌⊎◌, ℕ, ◌+◌, ◌≤◌, true, false, List, Option, None, Contains}
use Rattle.std.specs.List.{flat_map, AllByRecursion}
use Rattle.ex_base.specs.declared.ground.Ground as ground
use Rattle.ex_base.specs.declared.names.Oid.{Oid}
use Rattle.ex_base.specs.declared.names.Root.{Root}
use Rattle.ex_base.specs.Area.{catalog_no}
use Rattle.ex_base.specs.Ports.{PutsImage, times}
use Rattle.op_log.specs.declared.record.LogRecord.{LogRecord}
use Rattle.ex_base.specs.declared.names.Index.{Index}
use Rattle.file_bodies.specs.Files.{with_index}
use Rattle.object_files.specs.Catalog.{FileEntry, Catalog, CatalogOf}
use Rattle.trees.specs.Counted.{Counted, NamesPairs}
use Rattle.trees.specs.Damage.{IsWhole}
use Rattle.trees.specs.Made.{IsTaken}
use Rattle.trees.specs.Owners.{root_pages}
use Rattle.trees.specs.Trees.{Units, root_units}
use Rattle.table_model.specs.declared.table.Table.{Table}
use Rattle.table_model.specs.Tables.{with_bytes}
use Rattle.volume_model.specs.Held.{root_here}
pub use Rattle.volume_model.specs.OwnersMoved.{units_under}
use Rattle.volume_model.specs.Volume.{Volume, file_pages, roots_in, stored_in, table_of}
use Rattle.volume_edits.specs.Ported.{IsVolume, units_in}

-- the units of all trees of a volume
abbrev pub trees_of : Units → Volume → List ℕ
trees_of units v = flat_map (root_units units) (roots_in (stored_in v))

-- The root is one of those of the volume: the version that gets it shares a tree with another one.
pub record IsShared {S : Type 0} (g : ground.Ghosts S) (s : S) (v : Volume) (root : Option Root) : Type 0 where
  pub there : (p : ℕ) → times p (root_pages (root_here root)) ≤ times p (root_pages (roots_in (stored_in v)))
  pub whole : AllByRecursion (IsWhole (g.geometry s) (g.unit s)) (root_here root)

-- A unit of the tree that came is one of the tree that went, was free, or is one of a tree that is shared.
pub data IsOwnUnit {S : Type 0} (g : ground.Ghosts S) (old : S) (v : Volume) (gone come : Option Root) (p : ℕ) : Type 0 where
  kept : Contains (units_under (g.unit old) gone) p → IsOwnUnit g old v gone come p
  taken : g.used old p ≡ false → IsOwnUnit g old v gone come p
  shared : IsShared g old v come → Contains (units_under (g.unit old) come) p → IsOwnUnit g old v gone come p

-- The roots of the new volume are those of the old one without the one that went and with the one that came, each as often as it is named. The trees of
-- both are whole. The nodes that were taken are counted, and none of them is a logged page. Each unit of the tree that came was free, is one of the tree
-- that went, or of one that is shared, and it has every unit that was taken and is no logged page.
pub record TurnsRoots {S : Type 0} (g : ground.Ghosts S) (old new : S) (v now : Volume) (gone come : Option Root) : Type 0 where
  pub roots : (p : ℕ) → times p (root_pages (roots_in (stored_in now))) + times p (root_pages (root_here gone)) ≡ times p (root_pages (roots_in (stored_in v))) + times p (root_pages (root_here come))
  pub there : (p : ℕ) → times p (root_pages (root_here gone)) ≤ times p (root_pages (roots_in (stored_in v)))
  pub went : AllByRecursion (IsWhole (g.geometry old) (g.unit old)) (root_here gone)
  pub came : AllByRecursion (IsWhole (g.geometry new) (g.unit new)) (root_here come)
  pub counts : NamesPairs g → Counted g old new
  pub apart : (names : NamesPairs g) → AllByRecursion (λ p. g.held new p ≡ false) (counts names).nodes
  pub own : (p : ℕ) → Contains (units_under (g.unit new) come) p → (g.used new p ≡ true) × (g.held new p ≡ false) × IsOwnUnit g old v gone come p
  pub tree : (p : ℕ) → IsTaken g old new p → g.held new p ≡ false → Contains (units_under (g.unit new) come) p

-- The port's working state becomes a volume whose table has other bytes in one version, whose root was the one that went and is the one that came. It has
-- the same catalog and the same pages, and each unit of its trees is one of before or was free.
pub record ChangesVolume {S : Type 0} (g : ground.Ghosts S) (old new : S) (records : List LogRecord) (v : Volume) (oid : Oid) (bytes : List ℕ) (gone come : Option Root) : Type 0 where
  pub now : Volume
  pub volume : IsVolume g new records now
  pub table : table_of (units_in g new) now ≡ with_bytes oid (λ was. bytes) (table_of (units_in g old) v)
  pub catalog : now.catalog ≡ v.catalog
  pub pages : file_pages now ≡ file_pages v
  pub units : (u : ℕ) → Contains (trees_of (units_in g new) now) u → Contains (trees_of (units_in g old) v) u ⊎ (g.used old u ≡ false)
  pub turned : TurnsRoots g old new v now gone come

-- The port's working state becomes a volume with this table. In its catalog at most the index of one file is another one, each of its pages is one of
-- before or was free, and each unit of its trees is one of before.
pub record MovesVolume {S : Type 0} (g : ground.Ghosts S) (old new : S) (records : List LogRecord) (v : Volume) (gone come : Option Root) (table : Table) : Type 0 where
  pub now : Volume
  pub volume : IsVolume g new records now
  pub shows : table_of (units_in g new) now ≡ table
  pub after : Index
  pub catalog : now.catalog ≡ with_index v.catalog after
  pub pages : (page : ℕ) → Contains (file_pages now) page → Contains (file_pages v) page ⊎ (g.used old page ≡ false)
  pub units : (u : ℕ) → Contains (trees_of (units_in g new) now) u → Contains (trees_of (units_in g old) v) u
  pub turned : TurnsRoots g old new v now gone come

-- The page of the catalog is written, and has this catalog from now on.
pub record WritesCatalog {S : Type 0} (g : ground.Ghosts S) (old new : S) (catalog : Catalog) : Type 0 where
  pub image : List ℕ
  pub puts : PutsImage g old new catalog_no image
  pub spelled : CatalogOf image catalog
  pub told : g.tells old
  pub geometry : g.geometry new ≡ g.geometry old

-- The port's working state becomes a volume with this catalog and this table, of the same records, on the same pages and over the same
-- units.
pub record RecatalogsVolume {S : Type 0} (g : ground.Ghosts S) (old new : S) (records : List LogRecord) (v : Volume) (catalog : Catalog) (table : Table) : Type 0 where
  pub now : Volume
  pub volume : IsVolume g new records now
  pub shows : table_of (units_in g new) now ≡ table
  pub has : now.catalog ≡ catalog
  pub stored : stored_in now ≡ stored_in v
  pub pages : file_pages now ≡ file_pages v
  pub units : trees_of (units_in g new) now ≡ trees_of (units_in g old) v

-- another next unique number
abbrev pub catalog_numbered : ℕ → Catalog → Catalog
catalog_numbered n c = record c { next_unique = n }

abbrev pub table_numbered : ℕ → Table → Table
table_numbered n t = record t { next_unique = n }

-- an entry of the file with a name has no root
abbrev pub IsRootless : List ℕ → FileEntry → Type 0
IsRootless name e = e.name ≡ name → e.root ≡ None
