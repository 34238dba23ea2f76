-- What a fault of a call on a file says of the page that isn't what names it, and which pages a call has read.
use Rattle.std.specs.Prelude.{◌≡◌, ◌≢◌, ◌≤◌, ◌+◌, ℕ, zero, suc, Bool, true, false, List, [], length, Option, Some, None, ⊤}
use Rattle.ex_base.specs.declared.faults.Seen.{Seen}
use Rattle.ex_base.specs.declared.faults.PortFault.{PortFault}
use Rattle.ex_base.specs.declared.faults.PortFault.TheVariants.{Disk, Memory, Damaged}
use Rattle.ex_base.specs.declared.geometry.Geometry.{Geometry}
use Rattle.ex_base.specs.declared.names.PageNo.{PageNo}
use Rattle.ex_base.specs.declared.names.Place.{Place}
use Rattle.ex_base.specs.Area.{catalog_no}
use Rattle.slotted_pages.specs.Reads.{page_on, IsPage}
use Rattle.slotted_pages.specs.Edits.{slots_of, with_slot, trimmed}
use Rattle.ex_base.specs.declared.names.Index.{Index}
use Rattle.file_index.specs.Index.{IsFilesPage, seen}
use Rattle.ex_base.specs.Seen.{catalog_seen, file_page_seen, nothing_seen, record_seen}
use Rattle.file_index.specs.Damage.{every_page, HasWay, IsIndexFault, IsAddingFault, IsLeft, IsRemovalFault, found_in}
use Rattle.object_files.specs.Edits.{IsCatalogPage, entries_on}
use Rattle.file_bodies.specs.Files.{index_in, IsPageOf, IsLive}

-- ---- the catalog

-- the fault is the port's own, or tells that the catalog's page with these bytes is outside its grammar
abbrev pub IsCatalogFault : List ℕ → PortFault → Type 0
IsCatalogFault bytes Disk = ⊤
IsCatalogFault bytes Memory = ⊤
IsCatalogFault bytes (Damaged at want got) = (at.0 ≡ catalog_no) × (want ≡ catalog_seen) × (got ≡ nothing_seen) × (IsCatalogPage bytes → ⊥)

-- the catalog's page with these bytes has an entry of the file
pub record ListsFile (bytes : List ℕ) (file_no : ℕ) (index : Index) : Type 0 where
  pub whole : IsCatalogPage bytes
  pub entry : index_in file_no (entries_on bytes) ≡ Some index

-- the fault is the port's own, or tells that the catalog's page with these bytes is outside its grammar or has no file with the number
abbrev pub IsFileFault : List ℕ → ℕ → PortFault → Type 0
IsFileFault bytes file_no Disk = ⊤
IsFileFault bytes file_no Memory = ⊤
IsFileFault bytes file_no (Damaged at want got) = (at.0 ≡ catalog_no) × (want ≡ catalog_seen) × (got ≡ nothing_seen) × ((index : Index) → ListsFile bytes file_no index → ⊥)

-- What a call tells that finds the index of a file in the catalog: the catalog lacks the file, or what is told of its index.
pub data IsListedFault (image : ℕ → List ℕ) (file_no : ℕ) (Told : Index → Type 0) (fault : PortFault) : Type 0 where
  unlisted : IsFileFault (image catalog_no) file_no fault → IsListedFault image file_no Told fault
  listed : (index : Index) → ListsFile (image catalog_no) file_no index → Told index → IsListedFault image file_no Told fault

-- The catalog has the file, and of its index something holds.
pub record HasListed (image : ℕ → List ℕ) (file_no : ℕ) (Holds : Index → Type 0) : Type 0 where
  pub index : Index
  pub lists : ListsFile (image catalog_no) file_no index
  pub holds : Holds index

-- ---- a page of a file

-- the bytes are those of a page of some file: in the grammar, with a record
pub record HasRecords (bytes : List ℕ) : Type 0 where
  pub spelled : IsPage bytes
  pub some : 1 ≤ length (slots_of bytes)

-- What is seen of a page with these bytes, where it isn't a page of the file: it lies where no page of a file lies, or is none of those that are held, and
-- isn't read; or it is outside the grammar or without a record; or it is of another file.
pub data IsPageMisread (g : Geometry) (held : ℕ → Bool) (bytes : List ℕ) (file_no page : ℕ) (got : Seen) : Type 0 where
  misplaced : (IsFilesPage g page → ⊥) → got ≡ nothing_seen → IsPageMisread g held bytes file_no page got
  not_held : IsFilesPage g page → held page ≡ false → got ≡ nothing_seen → IsPageMisread g held bytes file_no page got
  misspelled : IsFilesPage g page → (HasRecords bytes → ⊥) → got ≡ nothing_seen → IsPageMisread g held bytes file_no page got
  foreign : IsFilesPage g page → HasRecords bytes → (page_on bytes).file_no ≢ file_no → got ≡ file_page_seen (page_on bytes).file_no → IsPageMisread g held bytes file_no page got

-- the fault is the port's own, or tells that this page with these bytes isn't one of the file
abbrev pub IsFilePageFault : Geometry → (ℕ → Bool) → List ℕ → ℕ → ℕ → PortFault → Type 0
IsFilePageFault g held bytes file_no page Disk = ⊤
IsFilePageFault g held bytes file_no page Memory = ⊤
IsFilePageFault g held bytes file_no page (Damaged at want got) = (at.0 ≡ page) × (want ≡ file_page_seen file_no) × IsPageMisread g held bytes file_no page got

-- ---- a place

-- A record stands at the place, on a page with these bytes, which is held, is in the grammar of a file's pages and lies where one may lie.
pub record HasRecordAt (g : Geometry) (held : ℕ → Bool) (bytes : List ℕ) (place : Place) : Type 0 where
  pub area : IsFilesPage g place.page.0
  pub is_held : held place.page.0 ≡ true
  pub spelled : IsPage bytes
  pub live : IsLive bytes place.slot

-- the fault is the port's own, or tells that no record stands at the place
abbrev pub IsPlaceFault : Geometry → (ℕ → Bool) → List ℕ → Place → PortFault → Type 0
IsPlaceFault g held bytes place Disk = ⊤
IsPlaceFault g held bytes place Memory = ⊤
IsPlaceFault g held bytes place (Damaged at want got) = (at ≡ place.page) × (want ≡ record_seen place.slot) × (got ≡ nothing_seen) × (HasRecordAt g held bytes place → ⊥)

-- ---- the root of an index that is to be written

-- what a root shows: at level 0 it is a page of the file, above an index page
abbrev pub root_seen : ℕ → ℕ → Seen
root_seen zero file_no = file_page_seen file_no
root_seen (suc level) file_no = seen (suc level) None

-- the fault is the port's own, or tells that the root of the index lies where no page of a file lies
abbrev pub IsRootFault : Geometry → Index → PortFault → Type 0
IsRootFault g index Disk = ⊤
IsRootFault g index Memory = ⊤
IsRootFault g index (Damaged at want got) = (index.root ≡ Some at) × (want ≡ root_seen index.level index.file_no) × (got ≡ nothing_seen) × (IsFilesPage g at.0 → ⊥)

-- ---- what the calls tell

-- What a look for the file of a page tells: the catalog is outside its grammar, or, where the file on the page is in it, a page of that file's index on
-- the way to the page isn't what names it.
pub data IsBelongingFault (g : Geometry) (image : ℕ → List ℕ) (page : ℕ) (fault : PortFault) : Type 0 where
  broken_catalog : IsCatalogFault (image catalog_no) fault → IsBelongingFault g image page fault
  on_the_way : (index : Index) → IsPage (image page) → ListsFile (image catalog_no) (page_on (image page)).file_no index → IsIndexFault g every_page image index page fault → IsBelongingFault g image page fault

-- What a look at the pages of a file from a number on tells: of an index page on the way to a number from there on, or of the page that such a way finds.
-- The pages of the file that it finds are to be held; those of the index are only read.
pub data IsLookFault (g : Geometry) (held : ℕ → Bool) (image : ℕ → List ℕ) (index : Index) (from : ℕ) (fault : PortFault) : Type 0 where
  lost_way : (key : ℕ) → from ≤ key → IsIndexFault g every_page image index key fault → IsLookFault g held image index from fault
  found_page : (key : ℕ) (page : PageNo) → from ≤ key → HasWay g image index key → found_in image index key ≡ Some page → IsFilePageFault g held (image page.0) index.file_no page.0 fault → IsLookFault g held image index from fault

-- What a call tells that puts a body into the file of an index: the catalog lacks the file; or of a page that the look for room reads; or, where a page
-- was taken, of the index that it is put into, with the pages that are held then.
pub data IsPlacingFault (g : Geometry) (held : ℕ → Bool) (image : ℕ → List ℕ) (index : Index) (from : ℕ) (fault : PortFault) : Type 0 where
  unlisted_file : IsFileFault (image catalog_no) index.file_no fault → IsPlacingFault g held image index from fault
  looking : IsLookFault g held image index from fault → IsPlacingFault g held image index from fault
  adding : (page : ℕ) (taken : ℕ → List ℕ) (with_it : ℕ → Bool) → ((p : ℕ) → p ≢ page → (taken p ≡ image p) × (with_it p ≡ held p)) → IsAddingFault g with_it taken index page fault → IsPlacingFault g held image index from fault

-- What a call tells that takes a page out of the file of an index: the catalog lacks the file; or what is told of the index (`now_held` and `now` are
-- what stands when it is told); or the root of the index that is left without the page lies where no page of a file lies.
pub data IsLeavingFault (g : Geometry) (held : ℕ → Bool) (image : ℕ → List ℕ) (now_held : ℕ → Bool) (now : ℕ → List ℕ) (index : Index) (page : ℕ) (fault : PortFault) : Type 0 where
  lost_entry : IsFileFault (image catalog_no) index.file_no fault → IsLeavingFault g held image now_held now index page fault
  removing : IsRemovalFault g held image now_held now index page fault → IsLeavingFault g held image now_held now index page fault
  bad_root : (left : Index) → IsLeft image index left → IsRootFault g left fault → IsLeavingFault g held image now_held now index page fault

-- What a call tells that takes the body at a place out of its file: no record stands there; or what is told of the file that the page shows.
pub data IsTakingFault (g : Geometry) (held : ℕ → Bool) (image : ℕ → List ℕ) (now_held : ℕ → Bool) (now : ℕ → List ℕ) (place : Place) (fault : PortFault) : Type 0 where
  no_record : IsPlaceFault g held (image place.page.0) place fault → IsTakingFault g held image now_held now place fault
  leaving : HasRecordAt g held (image place.page.0) place → IsListedFault image (page_on (image place.page.0)).file_no (λ index. IsLeavingFault g held image now_held now index place.page.0 fault) fault → IsTakingFault g held image now_held now place fault

-- ---- what the calls have read

-- A look for the file of a page: where the page is one of a file, the catalog is in its grammar, and where it has that file, each page of the file's index
-- on the way to the page is what names it.
abbrev pub IsBelonging : Geometry → (ℕ → List ℕ) → ℕ → Type 0
IsBelonging g image page = IsFilesPage g page → IsPage (image page)
    → IsCatalogPage (image catalog_no) × ((index : Index) → ListsFile (image catalog_no) (page_on (image page)).file_no index → HasWay g image index page)

-- The page is one of a file: it lies where one may lie and is in the grammar, and the way to it in the index of the file that it shows finds it.
pub record IsFoundIn (g : Geometry) (image : ℕ → List ℕ) (page : PageNo) : Type 0 where
  pub area : IsFilesPage g page.0
  pub spelled : IsPage (image page.0)
  pub index : Index
  pub lists : ListsFile (image catalog_no) (page_on (image page.0)).file_no index
  pub found : found_in image index page.0 ≡ Some page

-- A look at the pages of a file from a number on, which ends at a page or behind the last one: each index page on its ways is what names it, and each page
-- that they find is one of the file.
pub data IsLook (g : Geometry) (image : ℕ → List ℕ) (index : Index) : ℕ → Option PageNo → Type 0 where
  ends : (key : ℕ) → HasWay g image index key → found_in image index key ≡ None → IsLook g image index key None
  here : (key : ℕ) (page : PageNo) → HasWay g image index key → found_in image index key ≡ Some page → IsFilesPage g page.0 → IsPageOf index.file_no (image page.0) → IsLook g image index key (Some page)
  goes_on : (key : ℕ) (page : PageNo) (end : Option PageNo) → HasWay g image index key → found_in image index key ≡ Some page → IsFilesPage g page.0 → IsPageOf index.file_no (image page.0) → IsLook g image index (page.0 + 1) end → IsLook g image index key end

-- What a call has read that puts a body into the file of an index: a look that ends at the body's page; or one that ends behind the last page, and, once the
-- body's page was taken, the way to it.
pub data IsPlacing (g : Geometry) (image : ℕ → List ℕ) (index : Index) (from : ℕ) (page : PageNo) : Type 0 where
  roomy : IsLook g image index from (Some page) → IsPlacing g image index from page
  fresh : IsLook g image index from None → (taken : ℕ → List ℕ) → ((p : ℕ) → p ≢ page.0 → taken p ≡ image p) → HasWay g taken index page.0 → IsPlacing g image index from page

-- the record in the slot is the only one of the page
abbrev pub IsLastOn : List ℕ → ℕ → Type 0
IsLastOn bytes slot = trimmed (with_slot (slots_of bytes) slot None) ≡ []

-- the number that the next place is looked for from
abbrev pub page_from : Option Place → ℕ
page_from None = 0
page_from (Some place) = place.page.0

-- the page of a place, where there is one
abbrev pub page_in : Option Place → Option PageNo
page_in None = None
page_in (Some place) = Some place.page
