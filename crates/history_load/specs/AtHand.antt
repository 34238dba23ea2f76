-- The file at hand of a load, and what its end makes of it.
use Rattle.std.specs.Prelude.{◌≡◌, ℕ, suc, ◌+◌, ◌/◌, ◌^◌, ◌<◌, ◌≤◌, min, Bool, is_some, List, [], ◌∷◌, ◌++◌, length, map, Option, Some, IsTrue, Contains}
use Rattle.std.specs.List.{AllByRecursion, AllZip}
use Rattle.disk_model.specs.Outside.{Outside}
use Rattle.ex_base.specs.declared.geometry.Geometry.{Geometry}
use Rattle.ex_base.specs.declared.names.PageNo.{PageNo}
use Rattle.ex_base.specs.declared.names.Place.{Place}
use Rattle.ex_base.specs.Area.{area_end, catalog_no}
use Rattle.ex_base.specs.Order.{AllDiffer, Rising}
use Rattle.history_counts.specs.Pages.{needs_with_record}
use Rattle.history_counts.specs.declared.page_needs.PageNeeds.{PageNeeds}
use Rattle.history_writes.specs.Indexed.{IsIndexed}
use Rattle.history_writes.specs.Linked.{IsDesk, rows_linked}
use Rattle.history_writes.specs.declared.index.IndexEnd.{IndexEnd}
use Rattle.history_fronts.specs.Fronts.{HasOlders}
use Rattle.history_links.specs.declared.PlacedVersion.{PlacedVersion}
use Rattle.history_links.specs.Linked.{NumbersRise, links_of, number_in as placed_number}
use Rattle.history_model.specs.FilePages.{record_size}
use Rattle.history_model.specs.History.{HistoryFile, HistoryVersion, number_in}
use Rattle.history_writes.specs.Contents.{placed_in}
use Rattle.history_writes.specs.Laid.{AreLaid, ArePagesOn, IsDense, all_of}
use Rattle.history_volumes.specs.Histories.{IsFileOn}
use Rattle.history_writes.specs.Files.{HasNewer, HasOlder}
use Rattle.history_writes.specs.Places.{leaf_place, node_place}
use Rattle.history_writes.specs.Records.{unlinked}
use Rattle.object_files.specs.Catalog.{CatalogOf, FileEntry, name_of}
use Rattle.object_files.specs.Edits.{IsCatalogPage, IsLowestUnused, entries_on, entry_inserted, indexed, new_file, numbers_on, with_entries}
use Rattle.object_files.specs.Reads.{catalog_on}
use Rattle.object_records.specs.Record.{IsRecord, Record}
use Rattle.slotted_pages.specs.Edits.{slots_of}
use Rattle.slotted_pages.specs.FilePage.{Slot, room_of}
use Rattle.trees.specs.Trees.{Units}
use Rattle.volume_model.specs.Homes.{home}
use Rattle.volume_model.specs.Parts.{HasIndex, HasPages, IsStored, bodies_in}
use Rattle.volume_model.specs.Volume.{FileContent, Stored, pages_of_file}
use Rattle.history_load.specs.declared.files_at_hand.FilesAtHand.{FilesAtHand}

-- ---- what is kept

-- The catalog is a page of its own, and there is room for pages and a record.
pub record IsReady (g : Geometry) (files : FilesAtHand) : Type 0 where
  pub catalog : IsCatalogPage files.catalog.items
  pub catalog_size : length files.catalog.items ≡ g.page_size
  pub page_size : length files.pages.page.items ≡ g.page_size
  pub behind : catalog_no < files.next
  pub desk : IsDesk g files.desk

abbrev pub LiesBehind : PlacedVersion → Type 0
LiesBehind v = (catalog_no < v.place.page.0) × (v.place.page.0 < 2 ^ 32) × (v.place.slot < 2 ^ 16)

-- The last file of the catalog is at hand: its pages are those from the first free one on, and its versions that came are in order of their numbers and lie behind the
-- catalog.
pub record IsLastFile (g : Geometry) (files : FilesAtHand) : Type 0 where
  pub ready : IsReady g files
  pub number : Contains (numbers_on files.catalog.items) files.pages.file_no
  pub first : files.pages.first ≡ files.next
  pub rising : NumbersRise files.versions.items
  pub places : AllByRecursion LiesBehind files.versions.items

-- It may get more versions, or end.
pub record HasFile (g : Geometry) (files : FilesAtHand) : Type 0 where
  pub last : IsLastFile g files
  pub page : IsDense files.pages.page.items

-- how many pages the records of the file at hand fill
abbrev pub pages_filled : FilesAtHand → ℕ
pages_filled files = files.pages.written + min 1 (length (slots_of files.pages.page.items))

-- the bytes that are free on the last of them, 0 where there is none
abbrev pub room_behind : ℕ → List Slot → ℕ
room_behind size [] = 0
room_behind size (slot ∷ slots) = room_of size (slot ∷ slots)

-- They are as many as are counted, and as much is free.
pub record IsFilledAs (g : Geometry) (files : FilesAtHand) (needs : PageNeeds) : Type 0 where
  pub filled : pages_filled files ≡ needs.filled
  pub room : room_behind g.page_size (slots_of files.pages.page.items) ≡ needs.room

-- so many pages and those of their index at most
abbrev pub with_index : ℕ → ℕ
with_index pages = pages + (pages / 16 + 4)

abbrev pub HasRoomForRecord : Geometry → FilesAtHand → Type 0
HasRoomForRecord g files = files.pages.first + files.pages.written < area_end g

abbrev pub HasRoomForFile : Geometry → FilesAtHand → Type 0
HasRoomForFile g files = files.pages.first + with_index (pages_filled files) ≤ area_end g

-- ---- what came of it

abbrev pub placed_version : HistoryVersion → Place → PlacedVersion
placed_version v place = record { unique = v.unique; frozen = v.frozen; older = v.older; place = place }

-- versions with the places of their records
abbrev pub versions_placed : List HistoryVersion → List Stored → List PlacedVersion
versions_placed [] stored = []
versions_placed (v ∷ versions) [] = []
versions_placed (v ∷ versions) (s ∷ stored) = placed_version v s.place ∷ versions_placed versions stored

-- The records of the versions that came of the file are laid, without links, and their places are kept.
pub record IsAtHand (g : Geometry) (image : List ℕ) (files : FilesAtHand) (versions : List HistoryVersion) : Type 0 where
  pub records : AllByRecursion IsRecord (map (unlinked g) versions)
  pub laid : AreLaid (home g image) files.pages (map (unlinked g) versions)
  pub placed : files.versions.items ≡ versions_placed versions (placed_in files.pages.first (laid.full ++ laid.last ∷ []))

-- ---- a file begins

-- The catalog names it, with a number that no file has, and none of its versions came.
pub record BeginsFile (g : Geometry) (old new : FilesAtHand) (name : List ℕ) : Type 0 where
  pub number : IsLowestUnused (numbers_on old.catalog.items) new.pages.file_no
  pub catalog : CatalogOf new.catalog.items (with_entries (catalog_on old.catalog.items) (entry_inserted (new_file name new.pages.file_no) (entries_on old.catalog.items)))
  pub at_hand : (image : List ℕ) → IsAtHand g image new []
  pub filled : IsFilledAs g new (record { others = 0; filled = 0; room = 0 })
  pub next : new.next ≡ old.next
  pub count : new.count ≡ old.count

-- ---- its versions come

-- How its pages are filled goes on as a record more is counted.
abbrev pub FillsAs : Geometry → FilesAtHand → FilesAtHand → HistoryVersion → Type 0
FillsAs g old new v = (needs : PageNeeds) → IsFilledAs g old needs → IsFilledAs g new (needs_with_record g.page_size needs (record_size v.content))

-- Whatever versions came of the file, those and one more have.
abbrev pub PutsVersion : Geometry → Outside → Outside → FilesAtHand → FilesAtHand → HistoryVersion → Type 0
PutsVersion g was now old new v = (image : List ℕ) (versions : List HistoryVersion) → was.disk ≡ Some image → IsAtHand g image old versions
    → (later : List ℕ) × (now.disk ≡ Some later) × IsAtHand g later new (versions ++ v ∷ [])

-- All but the versions is the same.
pub record SameButVersions (old new : FilesAtHand) : Type 0 where
  pub catalog : new.catalog.items ≡ old.catalog.items
  pub pages : new.pages ≡ old.pages
  pub desk : new.desk ≡ old.desk
  pub next : new.next ≡ old.next
  pub count : new.count ≡ old.count

-- A version more is counted and kept by its number, and the catalog and the first page that no file has are the same.
pub record CountsVersion (old new : FilesAtHand) (v : HistoryVersion) : Type 0 where
  pub catalog : new.catalog.items ≡ old.catalog.items
  pub file_no : new.pages.file_no ≡ old.pages.file_no
  pub next : new.next ≡ old.next
  pub count : new.count ≡ suc old.count
  pub numbers : map placed_number new.versions.items ≡ map placed_number old.versions.items ++ v.unique ∷ []

-- ---- its records get links

-- it is derived from another version
abbrev pub has_older : PlacedVersion → Bool
has_older v = is_some v.older

-- The records of versions stand on the pages of the file without links, and their places are kept.
pub record AreUnlinked (g : Geometry) (image : List ℕ) (files : FilesAtHand) (versions : List HistoryVersion) (pages : List (List Record)) : Type 0 where
  pub count : files.pages.written ≡ length pages
  pub records : AllByRecursion IsRecord (map (unlinked g) versions)
  pub all : map (unlinked g) versions ≡ all_of pages
  pub placed : files.versions.items ≡ versions_placed versions (placed_in files.pages.first pages)
  pub are : ArePagesOn (home g image) files.pages.file_no files.pages.first pages

-- the pages with the links of these versions
abbrev pub pages_linked : List PlacedVersion → List (List Record) → List (List Record)
pages_linked versions pages = rows_linked (map (links_of versions) versions) pages

-- Whatever versions the file has whose records stand on its pages without links, they have them now.
abbrev pub LinksFile : Geometry → Outside → Outside → FilesAtHand → Type 0
LinksFile g was now files = (image : List ℕ) (versions : List HistoryVersion) (pages : List (List Record)) → was.disk ≡ Some image → AreUnlinked g image files versions pages
    → (later : List ℕ) × (now.disk ≡ Some later) × ArePagesOn (home g later) files.pages.file_no files.pages.first (pages_linked files.versions.items pages)

-- No records of versions stand there.
abbrev pub CantLink : Geometry → Outside → FilesAtHand → Type 0
CantLink g was files = (image : List ℕ) (versions : List HistoryVersion) (pages : List (List Record)) → was.disk ≡ Some image → AreUnlinked g image files versions pages → ⊥

-- All but the room for pages and a record is the same.
pub record SameButDesk (old new : FilesAtHand) : Type 0 where
  pub catalog : new.catalog.items ≡ old.catalog.items
  pub pages : new.pages ≡ old.pages
  pub versions : new.versions.items ≡ old.versions.items
  pub next : new.next ≡ old.next
  pub count : new.count ≡ old.count

-- ---- it gets an index

-- With an index of a level and a root, which stands over its pages on those behind them, up to the first page that no file has now, the file's entry names it.
pub record IsIndexedAs (g : Geometry) (image : List ℕ) (old new : FilesAtHand) (end : IndexEnd) : Type 0 where
  pub next : new.next ≡ end.next
  pub index : IsIndexed g image old.pages.file_no old.pages.first old.pages.written end
  pub catalog : entries_on new.catalog.items ≡ map (indexed old.pages.file_no end.level (Some end.root)) (entries_on old.catalog.items)

-- Whatever stood on the disk, it has that now, and all else of the file is the same.
pub record IndexesFile (g : Geometry) (was now : Outside) (old new : FilesAtHand) : Type 0 where
  pub told : (image : List ℕ) → was.disk ≡ Some image → (later : List ℕ) × (now.disk ≡ Some later) × (end : IndexEnd) × IsIndexedAs g later old new end
  pub behind : old.pages.first + old.pages.written ≤ new.next
  pub few : new.next ≤ old.pages.first + with_index old.pages.written
  pub names : map name_of (entries_on new.catalog.items) ≡ map name_of (entries_on old.catalog.items)
  pub count : new.count ≡ old.count

-- ---- it ends

-- The file stands behind its entry of the catalog, version for version, on pages from one number up to another.
pub record StandsAt (g : Geometry) (units : Units) (first end : ℕ) (f : HistoryFile) (entry : FileEntry) : Type 0 where
  pub content : FileContent
  pub index : HasIndex g units entry content
  pub pages : HasPages units entry content
  pub records : AllZip IsStored (bodies_in content) content.stored
  pub on : IsFileOn (leaf_place g) node_place f (entry, content)
  pub newer : AllByRecursion (HasNewer content.stored) content.stored
  pub older : AllByRecursion (HasOlder content.stored) content.stored
  pub placed : AllByRecursion (λ (page : ℕ). (first ≤ page) × (page < end)) (pages_of_file content)
  pub differ : AllDiffer (pages_of_file content)

abbrev pub file_entry : List ℕ → ℕ → ℕ → Option PageNo → FileEntry
file_entry name file_no level root = record { name = name; level = level; root = root; file_no = file_no }

-- The file's entry, which is the last one, has its index now, and the file stands behind it.
pub record IsEnded (g : Geometry) (image : List ℕ) (old new : FilesAtHand) (f : HistoryFile) (entries : List FileEntry) : Type 0 where
  pub level : ℕ
  pub root : Option PageNo
  pub catalog : entries_on new.catalog.items ≡ entries ++ file_entry f.name old.pages.file_no level root ∷ []
  pub stands : StandsAt g (home g image) old.next new.next f (file_entry f.name old.pages.file_no level root)

-- The file at hand is the last one of the catalog, and all its versions came, with numbers in order and the older ones there.
pub record IsWholeAtHand (g : Geometry) (image : List ℕ) (files : FilesAtHand) (f : HistoryFile) (entries : List FileEntry) : Type 0 where
  pub catalog : entries_on files.catalog.items ≡ entries ++ new_file f.name files.pages.file_no ∷ []
  pub at_hand : IsAtHand g image files f.versions
  pub rising : Rising (map number_in f.versions)
  pub olders : HasOlders f

-- Whatever file is at hand with all its versions, it stands now, where the disk is honest.
abbrev pub EndsFile : Geometry → Outside → Outside → FilesAtHand → FilesAtHand → Type 0
EndsFile g was now old new = (image : List ℕ) (f : HistoryFile) (entries : List FileEntry) → IsTrue was.honest → was.disk ≡ Some image → IsWholeAtHand g image old f entries
    → (later : List ℕ) × (now.disk ≡ Some later) × IsEnded g later old new f entries

-- No file is at hand with all its versions on an honest disk that tells what it holds.
abbrev pub CantEnd : Geometry → Outside → FilesAtHand → Type 0
CantEnd g was old = (image : List ℕ) (f : HistoryFile) (entries : List FileEntry) → IsTrue was.honest → was.disk ≡ Some image → IsWholeAtHand g image old f entries → ⊥

-- It took no more pages than its records fill, and those of their index, and the catalog names the same files.
pub record EndsWithin (old new : FilesAtHand) : Type 0 where
  pub behind : old.next ≤ new.next
  pub few : new.next ≤ old.next + with_index (pages_filled old)
  pub names : map name_of (entries_on new.catalog.items) ≡ map name_of (entries_on old.catalog.items)
  pub count : new.count ≡ old.count
