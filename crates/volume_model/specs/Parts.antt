-- Which table the image of a volume stands for, and else which part of it fails first.
use Rattle.std.specs.Prelude.{◌≡◌, ℕ, suc, ◌+◌, ◌<◌, ◌≤◌, List, [], ◌∷◌, length, take, Some, None}
use Rattle.std.specs.List.{flat_map, AllByRecursion, AllZip, zip}
use Rattle.ex_base.specs.declared.names.Place.{Place}
use Rattle.ex_base.specs.declared.names.Root.{Root}
use Rattle.ex_base.specs.declared.geometry.Geometry.{Geometry}
use Rattle.ex_base.specs.Area.{catalog_no}
use Rattle.ex_base.specs.Bytes.{part}
use Rattle.ex_base.specs.Order.{AllDiffer}
use Rattle.ex_base.specs.Sizes.{leaf_bytes, object_most, volume_bytes}
use Rattle.ex_base.specs.Superblock.{IsSuper}
use Rattle.op_log.specs.declared.record.LogRecord.{LogRecord}
use Rattle.op_log.specs.AfterLog.{AllApply}
use Rattle.op_log.specs.Log.{SaysLog}
use Rattle.slotted_pages.specs.FilePage.{FilePage, Slot, SlotsOf}
use Rattle.object_records.specs.Record.{BodyOf}
use Rattle.file_index.specs.Index.{IsIndex, keys_of, pages_of}
use Rattle.object_files.specs.Catalog.{FileEntry, CatalogOf}
use Rattle.trees.specs.Shape.{IsBalanced}
use Rattle.trees.specs.Trees.{Units, RootNamed, RootSized, root_shape, root_units}
use Rattle.table_model.specs.declared.table.Table.{Table}
use Rattle.session_views.specs.declared.Part.{Part}
use Rattle.session_views.specs.declared.Part.TheVariants.{Super, Log, Catalog, File, Page, Body, Node, Balance, Unique}
use Rattle.volume_model.specs.Volume.{Stored, FileContent, Volume, Decoded, stored_in, file_pages, unique_of, roots_in, table_of, units_of}
use Rattle.volume_model.specs.Links.{Apart, AreLinked, HasObjects, NumbersDiffer}

-- ---- Super

-- The disk begins with the superblock of a geometry, of a format that is read, and is large enough for it.
pub record SuperOf (disk : List ℕ) (g : Geometry) : Type 0 where
  pub spelled : IsSuper (part disk 0 g.page_size) g
  pub large : volume_bytes g ≤ length disk

-- ---- Catalog

-- The number is that of the last record, where there is one.
abbrev pub IsLastOf : List LogRecord → ℕ → Type 0
IsLastOf [] last = Unit {0}
IsLastOf (r ∷ []) last = last ≡ r.txn
IsLastOf (r ∷ next ∷ rs) last = IsLastOf (next ∷ rs) last

-- ---- File

-- The file's index is whole, of the level that the entry says, and names the file's pages.
pub record HasIndex (g : Geometry) (units : Units) (entry : FileEntry) (file : FileContent) : Type 0 where
  pub whole : IsIndex g units entry.file_no entry.level entry.root
  pub numbers : file.numbers ≡ keys_of units entry.level entry.root
  pub index_pages : file.index_pages ≡ pages_of units entry.level entry.root

-- ---- Page

-- The page is in its grammar, has a record, and has its file's number.
abbrev pub HasPage : Units → FileEntry → ℕ → FilePage → Type 0
HasPage units entry page p = SlotsOf (units page) p × (1 ≤ length p.slots) × (p.file_no ≡ entry.file_no)

abbrev pub HasPages : Units → FileEntry → FileContent → Type 0
HasPages units entry file = AllZip (HasPage units entry) file.numbers file.pages

-- ---- Body

-- the live slots of a page from a slot on, each with its place
abbrev pub bodies_from : ℕ → ℕ → List Slot → List (Place × List ℕ)
bodies_from page slot [] = []
bodies_from page slot (None ∷ slots) = bodies_from page (suc slot) slots
bodies_from page slot (Some body ∷ slots) = (record { page = record { 0 = page }; slot = slot }, body) ∷ bodies_from page (suc slot) slots

abbrev pub bodies_in : FileContent → List (Place × List ℕ)
bodies_in file = flat_map (λ (row : ℕ × FilePage). bodies_from row.0 0 row.1.slots) (zip file.numbers file.pages)

abbrev pub IsStored : Place × List ℕ → Stored → Type 0
IsStored row s = (row.0 ≡ s.place) × BodyOf row.1 s.body

-- Each record is in its grammar, and names records of its file as its older and its newer one.
pub record HasBodies (file : FileContent) : Type 0 where
  pub records : AllZip IsStored (bodies_in file) file.stored
  pub linked : AreLinked file.stored

-- ---- Node

-- Each tree is well formed, has no page of a file, and shares no unit with another object's.
pub record HasNodes (g : Geometry) (units : Units) (v : Volume) : Type 0 where
  pub named : AllByRecursion (λ (root : Root). RootNamed g units root.height root.page) (roots_in (stored_in v))
  pub no_file_page : AllByRecursion (λ (root : Root). Apart (root_units units root) (catalog_no ∷ file_pages v)) (roots_in (stored_in v))
  pub objects : HasObjects units (stored_in v)

-- ---- Balance

-- The counts of a tree agree, its leaves and nodes are as full as they must be, and it isn't above the largest size.
pub record HasBalance (g : Geometry) (units : Units) (root : Root) : Type 0 where
  pub sized : RootSized g units root.height root.size root.page
  pub balanced : IsBalanced g.fan (leaf_bytes g) (root_shape units root)
  pub limit : root.size ≤ object_most

-- ---- Unique

-- All unique numbers differ, are at least 1 and below the next one.
pub record HasUniques (v : Volume) : Type 0 where
  pub differ : NumbersDiffer (stored_in v)
  pub some : AllByRecursion (λ (s : Stored). 1 ≤ unique_of s) (stored_in v)
  pub below : AllByRecursion (λ (s : Stored). unique_of s < v.catalog.next_unique) (stored_in v)

-- ---- Log

-- The log says these records, and each of their entries applies.
pub record HasRecords (g : Geometry) (disk : List ℕ) (records : List LogRecord) : Type 0 where
  pub says : SaysLog g records disk
  pub apply : AllApply records

-- ---- all parts

-- a part from the catalog on, of pages that decode as a volume
abbrev pub HoldsOf : Geometry → List LogRecord → Units → Volume → Part → Type 0
HoldsOf g records units v Super = Unit {0}
HoldsOf g records units v Log = Unit {0}
HoldsOf g records units v Catalog = CatalogOf (units catalog_no) v.catalog × IsLastOf records v.catalog.last
HoldsOf g records units v File = AllZip (HasIndex g units) v.catalog.entries v.files × AllDiffer (file_pages v)
HoldsOf g records units v Page = AllZip (HasPages units) v.catalog.entries v.files
HoldsOf g records units v Body = AllByRecursion HasBodies v.files
HoldsOf g records units v Node = HasNodes g units v
HoldsOf g records units v Balance = AllByRecursion (HasBalance g units) (roots_in (stored_in v))
HoldsOf g records units v Unique = HasUniques v

-- a part of a disk that decodes so
abbrev pub Holds : List ℕ → Decoded → Part → Type 0
Holds disk d Super = SuperOf disk d.geometry
Holds disk d Log = HasRecords d.geometry disk d.records
Holds disk d part = HoldsOf d.geometry d.records (units_of d disk) d.volume part

abbrev pub content_parts : List Part
content_parts = Catalog ∷ File ∷ Page ∷ Body ∷ Node ∷ Balance ∷ Unique ∷ []

-- the parts in the order in which an opening tests them
abbrev pub all_parts : List Part
all_parts = Super ∷ Log ∷ content_parts

-- The disk decodes so, with all its parts.
abbrev pub Decodes : List ℕ → Decoded → Type 0
Decodes disk d = AllByRecursion (Holds disk d) all_parts

-- The image stands for the table.
pub record StandsFor (disk : List ℕ) (table : Table) : Type 0 where
  pub decoded : Decoded
  pub parts : Decodes disk decoded
  pub same : table ≡ table_of (units_of decoded disk) decoded.volume

-- how many parts are tested before a part
abbrev pub rank : Part → ℕ
rank Super = 0
rank Log = 1
rank Catalog = 2
rank File = 3
rank Page = 4
rank Body = 5
rank Node = 6
rank Balance = 7
rank Unique = 8

-- The disk decodes so that these first parts hold.
abbrev pub FirstHold : List ℕ → ℕ → Type 0
FirstHold disk n = (d : Decoded) × AllByRecursion (Holds disk d) (take n all_parts)

-- The part is the first that fails: those before it hold together, and not with it.
pub record FirstBad (disk : List ℕ) (part : Part) : Type 0 where
  pub earlier : FirstHold disk (rank part)
  pub fails : ¬ FirstHold disk (rank part + 1)
