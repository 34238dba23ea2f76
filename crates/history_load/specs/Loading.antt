-- A stream that is loaded so far.
use Rattle.std.specs.Prelude.{◌≡◌, ℕ, zero, suc, ◌+◌, ◌*◌, ◌-◌, ◌^◌, ◌≤◌, List, [], ◌∷◌, ◌++◌, length, map, None, Some, IsTrue}
use Rattle.disk_model.specs.Outside.{Outside}
use Rattle.ex_base.specs.declared.geometry.Geometry.{Geometry}
use Rattle.history_counts.specs.Pages.{pages_by}
use Rattle.history_counts.specs.declared.page_needs.PageNeeds.{PageNeeds}
use Rattle.history_fronts.specs.Fronts.{Front, IsSound, files_of, history_of}
use Rattle.history_items.specs.Gathering.{item_most}
use Rattle.history_items.specs.Heads.{stream_head}
use Rattle.history_model.specs.History.{HistoryFile, all_versions}
use Rattle.history_model.specs.Stream.{lack_of}
use Rattle.history_reads.specs.Kept.{AreOfOneStream}
use Rattle.history_reads.specs.Reads.{CantBeRead, HasItem, IsRead}
use Rattle.history_writes.specs.Files.{AreFilesOn}
use Rattle.history_writes.specs.Pieces.{ArePiecesOn}
use Rattle.history_writes.specs.Places.{node_place}
use Rattle.object_files.specs.Catalog.{FileEntry, name_of}
use Rattle.object_files.specs.Edits.{entries_on, new_file}
use Rattle.volume_model.specs.Homes.{home}
use Rattle.history_links.specs.Linked.{number_in as placed_number}
use Rattle.history_load.specs.AtHand.{HasFile, IsAtHand, IsFilledAs, IsReady}
use Rattle.history_load.specs.declared.files_at_hand.FilesAtHand.{FilesAtHand}
use Rattle.history_load.specs.declared.loader.Loader.{Loader}

-- the page behind that of the last node
abbrev pub page_behind : ℕ → ℕ
page_behind nodes = suc (node_place nodes)

-- The files before the one at hand stand, and the records of its versions that came are laid. The catalog names it behind them, without pages.
pub record IsBetween (g : Geometry) (image : List ℕ) (first : ℕ) (f : Front) (files : FilesAtHand) : Type 0 where
  pub hand : HistoryFile
  pub hand_is : f.hand ≡ Some hand
  pub entries : List FileEntry
  pub catalog : entries_on files.catalog.items ≡ entries ++ new_file hand.name files.pages.file_no ∷ []
  pub before : AreFilesOn g (home g image) first files.next f.files entries
  pub at_hand : IsAtHand g image files hand.versions

-- Where no version of the last file is missing, all files stand.
abbrev pub StandTo : Geometry → List ℕ → ℕ → Front → ℕ → FilesAtHand → Type 0
StandTo g image first f zero files = AreFilesOn g (home g image) first files.next (files_of f) (entries_on files.catalog.items)
StandTo g image first f (suc missing) files = IsBetween g image first f files

-- These bytes of a stream are read, and what they say stands on the disk.
pub record IsLoadedTo (g : Geometry) (image joined : List ℕ) (loader : Loader) : Type 0 where
  pub read : IsRead g joined loader.progress loader.gathered.held
  pub pieces : ArePiecesOn g image read.front
  pub files : StandTo g image (page_behind loader.progress.head.nodes) read.front loader.progress.missing loader.files
  pub count : loader.files.count ≡ length (all_versions (history_of read.front))

-- ---- what a loader keeps

-- Where versions of the last file are missing, that is at hand: its pages are filled as they are counted, and its versions have the numbers that came.
abbrev pub HasFileIf : Geometry → Loader → ℕ → Type 0
HasFileIf g loader zero = IsReady g loader.files
HasFileIf g loader (suc missing) = HasFile g loader.files × IsFilledAs g loader.files loader.progress.needs × (map placed_number loader.files.versions.items ≡ loader.progress.numbers.numbers)

-- The pages from one on up to the next free one are within those that are counted: where versions of the last file are missing, its own are still to come, and four for
-- its index.
abbrev pub IsNextWithin : ℕ → ℕ → ℕ → PageNeeds → Type 0
IsNextWithin zero first next needs = next ≤ first + pages_by needs
IsNextWithin (suc missing) first next needs = next + 4 ≤ first + needs.others

abbrev pub name_in : HistoryFile → List ℕ
name_in file = file.name

-- The volume has room for the leaves, nodes and pages of the head, and what is kept is of this front.
pub record IsLoaderOf (g : Geometry) (loader : Loader) (f : Front) : Type 0 where
  pub room : lack_of (g.pages - 1) g.segs (stream_head loader.progress.head) ≡ None
  pub gathered : loader.gathered.room ≡ item_most g
  pub names : map name_of (entries_on loader.files.catalog.items) ≡ map name_in (files_of f)
  pub file : HasFileIf g loader loader.progress.missing
  pub behind : page_behind loader.progress.head.nodes ≤ loader.files.next
  pub next : IsNextWithin loader.progress.missing (page_behind loader.progress.head.nodes) loader.files.next loader.progress.needs
  -- A file has fewer than 2 ^ 32 versions.
  pub count : loader.files.count + loader.progress.missing ≤ 2 ^ 32 * loader.progress.files

-- Some bytes were loaded, and it asks for more of an item.
pub record IsLoader (g : Geometry) (loader : Loader) : Type 0 where
  pub joined : List ℕ
  pub read : IsRead g joined loader.progress loader.gathered.held
  pub of : IsLoaderOf g loader read.front

-- Some bytes were loaded, and it has a whole item.
pub record HasWholeItem (g : Geometry) (loader : Loader) : Type 0 where
  pub joined : List ℕ
  pub item : HasItem g joined loader.progress loader.gathered.held
  pub of : IsLoaderOf g loader item.front

-- ---- an item

-- The last file of the front is at hand with all that came of it, and isn't ended.
pub record IsOpen (g : Geometry) (loader : Loader) (f : Front) : Type 0 where
  pub room : lack_of (g.pages - 1) g.segs (stream_head loader.progress.head) ≡ None
  pub gathered : loader.gathered.room ≡ item_most g
  pub names : map name_of (entries_on loader.files.catalog.items) ≡ map name_in (files_of f)
  pub file : HasFile g loader.files
  pub filled : IsFilledAs g loader.files loader.progress.needs
  pub numbers : map placed_number loader.files.versions.items ≡ loader.progress.numbers.numbers
  pub behind : page_behind loader.progress.head.nodes ≤ loader.files.next
  pub next : loader.files.next + 4 ≤ page_behind loader.progress.head.nodes + loader.progress.needs.others
  pub count : loader.files.count + loader.progress.missing ≤ 2 ^ 32 * loader.progress.files

-- It is so of some front.
pub record HasOpen (g : Geometry) (loader : Loader) : Type 0 where
  pub front : Front
  pub of : IsOpen g loader front

-- Whatever front it is of, it is kept of that one behind the end of its file, where that is whole.
abbrev pub KeepsFront : Geometry → Loader → Loader → Type 0
KeepsFront g old new = (f : Front) → IsOpen g old f → IsLoaderOf g new f

-- Such a front, all versions of which that came are laid on an honest disk.
pub record IsLaidTo (g : Geometry) (image : List ℕ) (loader : Loader) (f : Front) : Type 0 where
  pub missing : f.missing ≡ loader.progress.missing
  pub sound : IsSound g f
  pub between : IsBetween g image (page_behind loader.progress.head.nodes) f loader.files

-- Whatever front is laid, it stands behind the end of its file, where that is whole.
abbrev pub StandsIfWhole : Geometry → Outside → Outside → Loader → Loader → Type 0
StandsIfWhole g was now old new = (image : List ℕ) (f : Front) → IsTrue was.honest → was.disk ≡ Some image → IsLaidTo g image old f
    → (later : List ℕ) × (now.disk ≡ Some later) × StandTo g later (page_behind new.progress.head.nodes) f new.progress.missing new.files

-- None is laid.
abbrev pub NoneIsLaid : Geometry → Outside → Loader → Type 0
NoneIsLaid g was old = (image : List ℕ) (f : Front) → IsTrue was.honest → was.disk ≡ Some image → IsLaidTo g image old f → ⊥

pub record SameButFiles (old new : Loader) : Type 0 where
  pub progress : new.progress ≡ old.progress
  pub gathered : new.gathered ≡ old.gathered

-- Joined bytes end with the whole item that is gathered, and what those before it say stands on the disk.
pub record IsLoadedBefore (g : Geometry) (image joined : List ℕ) (loader : Loader) : Type 0 where
  pub item : HasItem g joined loader.progress loader.gathered.held
  pub pieces : ArePiecesOn g image item.front
  pub files : StandTo g image (page_behind loader.progress.head.nodes) item.front loader.progress.missing loader.files
  pub count : loader.files.count ≡ length (all_versions (history_of item.front))

-- Whatever bytes were loaded before the item, those with it are now, where the disk is honest.
abbrev pub LoadsItem : Geometry → Outside → Outside → Loader → Loader → Type 0
LoadsItem g was now old new = (image joined : List ℕ) → IsTrue was.honest → was.disk ≡ Some image → IsLoadedBefore g image joined old
    → (later : List ℕ) × (now.disk ≡ Some later) × IsLoadedTo g later joined new

-- They are, and it asks for the next item of the same stream.
pub record TakesItem (g : Geometry) (was now : Outside) (old new : Loader) : Type 0 where
  pub loads : LoadsItem g was now old new
  pub is : IsLoader g new
  pub stream : AreOfOneStream old.progress new.progress

-- Whatever bytes were loaded before the item, no dump begins with those and it.
abbrev pub RefusesItem : Geometry → Outside → Loader → Type 0
RefusesItem g was old = (image joined : List ℕ) → IsTrue was.honest → was.disk ≡ Some image → IsLoadedBefore g image joined old → CantBeRead g joined

-- ---- a piece

-- Whatever bytes were loaded, those and the piece are, where the disk is honest.
abbrev pub LoadsPiece : Geometry → Outside → Outside → Loader → Loader → List ℕ → Type 0
LoadsPiece g was now old new piece = (image joined : List ℕ) → IsTrue was.honest → was.disk ≡ Some image → IsLoadedTo g image joined old
    → (later : List ℕ) × (now.disk ≡ Some later) × IsLoadedTo g later (joined ++ piece) new

-- Whatever bytes were loaded, no dump begins with those and the piece.
abbrev pub RefusesPiece : Geometry → Outside → Loader → List ℕ → Type 0
RefusesPiece g was old piece = (image joined : List ℕ) → IsTrue was.honest → was.disk ≡ Some image → IsLoadedTo g image joined old → CantBeRead g (joined ++ piece)
