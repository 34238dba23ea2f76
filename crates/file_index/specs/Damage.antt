-- What a fault says of an index page that isn't what names it, and which pages the way to a key leads through.
use Rattle.std.specs.Prelude.{◌≡◌, ◌≢◌, ◌⊎◌, ◌≤◌, ◌<◌, ◌+◌, ℕ, zero, suc, Bool, true, false, List, [], ◌∷◌, length, Option, Some, None, nat_lt, if◌then◌else◌, slice_index_or, ⊤}
use Rattle.ex_base.specs.declared.faults.Seen.{Seen}
use Rattle.ex_base.specs.Seen.{nothing_seen}
use Rattle.ex_base.specs.declared.faults.PortFault.{PortFault}
use Rattle.ex_base.specs.declared.faults.PortFault.TheVariants.{Disk, Memory, Damaged}
use Rattle.ex_base.specs.declared.geometry.Geometry.{Geometry}
use Rattle.ex_base.specs.declared.names.PageNo.{PageNo}
use Rattle.ex_base.specs.Ports.{IsDamage}
use Rattle.file_index.specs.declared.Entry.{Entry}
use Rattle.file_index.specs.IndexPage.{EntriesOf, level_on, entries_on}
use Rattle.ex_base.specs.declared.names.Index.{Index}
use Rattle.file_index.specs.Index.{IsFilesPage, IsNamed, least_entries, seen, key_seen}
use Rattle.file_index.specs.Least.{page_no, pick}
use Rattle.file_index.specs.Nodes.{first_key}

-- what an index page shows to what names it: its level and its least key, 0 where a root is named
abbrev pub shown_on : List ℕ → Option ℕ → Seen
shown_on bytes least = seen (level_on bytes) (key_seen least (first_key (entries_on bytes)))

-- The bytes are those of an index page of the file, with a number of entries that is allowed.
pub record IsOfIndex (size : ℕ) (bytes : List ℕ) (file_no : ℕ) (least : Option ℕ) : Type 0 where
  pub spelled : EntriesOf bytes (level_on bytes) file_no (entries_on bytes)
  pub enough : least_entries size least ≤ length (entries_on bytes)

-- Every page. A call that only reads asks of no page whether the working state has it.
abbrev pub every_page : ℕ → Bool
every_page page = true

-- What is seen of a page with these bytes, where it isn't the index page of this level, file and least key. It lies where no page of a file lies, or is none
-- of those that are held, and isn't read; or it is outside the grammar, of another file, or has a number of entries that isn't allowed; or it is another one
-- of the file.
pub data IsMisread (g : Geometry) (held : ℕ → Bool) (bytes : List ℕ) (level file_no : ℕ) (least : Option ℕ) (page : ℕ) (got : Seen) : Type 0 where
  elsewhere : (IsFilesPage g page → ⊥) → got ≡ nothing_seen → IsMisread g held bytes level file_no least page got
  lacking : IsFilesPage g page → held page ≡ false → got ≡ nothing_seen → IsMisread g held bytes level file_no least page got
  outside : IsFilesPage g page → (IsOfIndex g.page_size bytes file_no least → ⊥) → got ≡ nothing_seen → IsMisread g held bytes level file_no least page got
  other : IsFilesPage g page → IsOfIndex g.page_size bytes file_no least → got ≡ shown_on bytes least → got ≢ seen level least → IsMisread g held bytes level file_no least page got

-- the fault is the port's own, or tells that this page with these bytes isn't the index page that names it
abbrev pub IsPageFault : Geometry → (ℕ → Bool) → List ℕ → ℕ → ℕ → Option ℕ → ℕ → PortFault → Type 0
IsPageFault g held bytes level file_no least page Disk = ⊤
IsPageFault g held bytes level file_no least page Memory = ⊤
IsPageFault g held bytes level file_no least page (Damaged at want got) = (at.0 ≡ page) × (want ≡ seen level least) × IsMisread g held bytes level file_no least page got

-- The page is the index page that names it: it lies where a page of a file may lie, and is of this level, file and least key.
pub record IsNamedAt (g : Geometry) (image : ℕ → List ℕ) (level file_no : ℕ) (least : Option ℕ) (page : ℕ) : Type 0 where
  pub area : IsFilesPage g page
  pub named : IsNamed g.page_size (image page) level file_no least

-- ---- the way to a key

-- the place of the entry that a key leads to: of the last one whose key is not above the key, else of the first one
abbrev pub place_in : ℕ → List Entry → ℕ
place_in key [] = 0
place_in key (entry ∷ []) = 0
place_in key (entry ∷ after ∷ entries) = if nat_lt key after.key then 0 else suc (place_in key (after ∷ entries))

abbrev pub no_entry : Entry
no_entry = record { key = 0; page = page_no 0 }

-- the entry at a place
abbrev pub entry_in : List Entry → ℕ → Entry
entry_in entries at = slice_index_or entries at no_entry

-- the entry that a key leads to
abbrev pub child_in : ℕ → List Entry → Entry
child_in key entries = entry_in entries (place_in key entries)

-- Each index page on the way to a key, from a page of a level down, is what names it.
abbrev pub IsWay : Geometry → (ℕ → List ℕ) → ℕ → ℕ → ℕ → Option ℕ → ℕ → Type 0
IsWay g image file_no key zero least page = Unit {0}
IsWay g image file_no key (suc level) least page =
    IsNamedAt g image (suc level) file_no least page
    × IsWay g image file_no key level (Some (child_in key (entries_on (image page))).key) (child_in key (entries_on (image page))).page.0

-- The fault is the port's own, or tells of an index page on the way to a key, below pages that are what names them.
abbrev pub IsWayFault : Geometry → (ℕ → Bool) → (ℕ → List ℕ) → ℕ → ℕ → ℕ → Option ℕ → ℕ → PortFault → Type 0
IsWayFault g held image file_no key level least page Disk = ⊤
IsWayFault g held image file_no key level least page Memory = ⊤
IsWayFault g held image file_no key zero least page (Damaged at want got) = ⊥
IsWayFault g held image file_no key (suc level) least page (Damaged at want got) =
    IsPageFault g held (image page) (suc level) file_no least page (Damaged at want got)
    ⊎ (IsNamedAt g image (suc level) file_no least page
    × IsWayFault g held image file_no key level (Some (child_in key (entries_on (image page))).key) (child_in key (entries_on (image page))).page.0 (Damaged at want got))

-- the same from the entries of an index page on, which name pages of a level
abbrev pub IsWayUnder : Geometry → (ℕ → List ℕ) → ℕ → ℕ → ℕ → List Entry → Type 0
IsWayUnder g image file_no key level entries = IsWay g image file_no key level (Some (child_in key entries).key) (child_in key entries).page.0

abbrev pub IsFaultUnder : Geometry → (ℕ → Bool) → (ℕ → List ℕ) → ℕ → ℕ → ℕ → List Entry → PortFault → Type 0
IsFaultUnder g held image file_no key level entries fault = IsWayFault g held image file_no key level (Some (child_in key entries).key) (child_in key entries).page.0 fault

-- the same from the root of an index on, where it has one
abbrev pub IsWayFrom : Geometry → (ℕ → List ℕ) → ℕ → ℕ → ℕ → Option PageNo → Type 0
IsWayFrom g image file_no key level None = Unit {0}
IsWayFrom g image file_no key level (Some page) = IsWay g image file_no key level None page.0

abbrev pub IsFaultFrom : Geometry → (ℕ → Bool) → (ℕ → List ℕ) → ℕ → ℕ → ℕ → Option PageNo → PortFault → Type 0
IsFaultFrom g held image file_no key level None fault = ¬ IsDamage fault
IsFaultFrom g held image file_no key level (Some page) fault = IsWayFault g held image file_no key level None page.0 fault

abbrev pub HasWay : Geometry → (ℕ → List ℕ) → Index → ℕ → Type 0
HasWay g image index key = IsWayFrom g image index.file_no key index.level index.root

abbrev pub IsIndexFault : Geometry → (ℕ → Bool) → (ℕ → List ℕ) → Index → ℕ → PortFault → Type 0
IsIndexFault g held image index key fault = IsFaultFrom g held image index.file_no key index.level index.root fault

-- ---- an index that is as high as one may be

-- What a call tells that puts a page into an index: a fault on the way to the page; or that the root, which has the highest level of an index and no room
-- for an entry more, stands over more pages than a volume has.
pub data IsAddingFault (g : Geometry) (held : ℕ → Bool) (image : ℕ → List ℕ) (index : Index) (key : ℕ) (fault : PortFault) : Type 0 where
  on_the_way : IsIndexFault g held image index key fault → IsAddingFault g held image index key fault
  too_high : (root : PageNo) → index.root ≡ Some root → index.level ≡ 5 → fault ≡ Damaged root (seen index.level None) nothing_seen → IsAddingFault g held image index key fault

-- ---- what the way finds

-- the page at the end of the way to a key where it isn't below the key, else the page behind all that the way leads to
abbrev pub found_under : (ℕ → List ℕ) → ℕ → ℕ → ℕ → Option PageNo → Option PageNo
found_under image key zero page next = if nat_lt page key then next else Some (page_no page)
found_under image key (suc level) page next = found_under image key level (pick (entries_on (image page)) key next).child.page.0 (pick (entries_on (image page)) key next).next

abbrev pub found_from : (ℕ → List ℕ) → ℕ → ℕ → Option PageNo → Option PageNo
found_from image key level None = None
found_from image key level (Some page) = found_under image key level page.0 None

-- the page that an index names as its least one from a key on
abbrev pub found_in : (ℕ → List ℕ) → Index → ℕ → Option PageNo
found_in image index key = found_from image key index.level index.root

-- ---- beside the way

-- the place beside a place: the one before it, beside the first one the second
abbrev pub place_beside : ℕ → ℕ
place_beside zero = 1
place_beside (suc at) = at

-- the entry beside the one that a key leads to
abbrev pub beside_in : ℕ → List Entry → Entry
beside_in key entries = entry_in entries (place_beside (place_in key entries))

-- The fault tells that the index page which an entry names isn't what the entry says; at level 0 there is none.
abbrev pub IsEntryFault : Geometry → (ℕ → Bool) → (ℕ → List ℕ) → ℕ → ℕ → Entry → PortFault → Type 0
IsEntryFault g held image file_no zero entry fault = ⊥
IsEntryFault g held image file_no (suc level) entry fault = IsPageFault g held (image entry.page.0) (suc level) file_no (Some entry.key) entry.page.0 fault

-- The fault tells of an index page that a call is to write: it has been given back below, as `held` tells.
abbrev pub IsGoneFault : (ℕ → Bool) → ℕ → Option ℕ → ℕ → PortFault → Type 0
IsGoneFault held level least page fault = (held page ≡ false) × (fault ≡ Damaged (page_no page) (seen level least) nothing_seen)

-- The fault tells of an index page on the way to a key that has been given back, or of one that stands beside such a page, once the pages below are written:
-- as `held` and `now` are then. The pages above are what names them.
abbrev pub IsBesideFault : Geometry → (ℕ → List ℕ) → (ℕ → Bool) → (ℕ → List ℕ) → ℕ → ℕ → ℕ → Option ℕ → ℕ → PortFault → Type 0
IsBesideFault g image held now file_no key zero least page fault = ⊥
IsBesideFault g image held now file_no key (suc level) least page fault =
    IsNamedAt g image (suc level) file_no least page
    × (IsGoneFault held (suc level) least page fault
    ⊎ (IsEntryFault g held now file_no level (beside_in key (entries_on (image page))) fault
    ⊎ IsBesideFault g image held now file_no key level (Some (child_in key (entries_on (image page))).key) (child_in key (entries_on (image page))).page.0 fault))

-- the same from the entries of an index page on
abbrev pub IsBesideUnder : Geometry → (ℕ → List ℕ) → (ℕ → Bool) → (ℕ → List ℕ) → ℕ → ℕ → ℕ → List Entry → PortFault → Type 0
IsBesideUnder g image held now file_no key level entries fault =
    IsEntryFault g held now file_no level (beside_in key entries) fault
    ⊎ IsBesideFault g image held now file_no key level (Some (child_in key entries).key) (child_in key entries).page.0 fault

-- the same from the root of an index on
abbrev pub IsBesideFrom : Geometry → (ℕ → List ℕ) → (ℕ → Bool) → (ℕ → List ℕ) → ℕ → ℕ → ℕ → Option PageNo → PortFault → Type 0
IsBesideFrom g image held now file_no key level None fault = ⊥
IsBesideFrom g image held now file_no key level (Some page) fault = IsBesideFault g image held now file_no key level None page.0 fault

-- What a removal tells: a fault on the way to the key, or of a page on it or beside it once the pages below are written: what stands then is `now_held` and
-- `now`.
abbrev pub IsRemovalFault : Geometry → (ℕ → Bool) → (ℕ → List ℕ) → (ℕ → Bool) → (ℕ → List ℕ) → Index → ℕ → PortFault → Type 0
IsRemovalFault g held image now_held now index key fault = IsIndexFault g held image index key fault ⊎ IsBesideFrom g image now_held now index.file_no key index.level index.root fault

-- ---- what is left

-- Of two entries one is left, which names what one of them named.
pub record IsLone (old new : List Entry) : Type 0 where
  pub two : length old ≡ 2
  pub at : ℕ
  pub inside : at < 2
  pub page : (entry_in new 0).page ≡ (entry_in old at).page

-- What is left of an index once the entry of a page is taken out of it: the index as it was; nothing, where it had only one page; or, a level lower, what one of
-- the two entries of its root names.
pub data IsLeft (image : ℕ → List ℕ) (index left : Index) : Type 0 where
  stays : left ≡ index → IsLeft image index left
  goes : left.root ≡ None → IsLeft image index left
  falls : (root : PageNo) (at : ℕ) → index.root ≡ Some root → left.level + 1 ≡ index.level → left.file_no ≡ index.file_no → length (entries_on (image root.0)) ≡ 2 → at < 2
      → left.root ≡ Some (entry_in (entries_on (image root.0)) at).page → IsLeft image index left
