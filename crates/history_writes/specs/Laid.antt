-- Records that are laid on pages of a file, one behind the other.
use Rattle.std.specs.Prelude.{◌≡◌, ◌⊎◌, ℕ, suc, ◌+◌, ◌≤◌, List, [], ◌∷◌, ◌++◌, length, map, Option, Some, None}
use Rattle.std.specs.List.{flat_map}
use Rattle.ex_base.specs.declared.geometry.Geometry.{Geometry}
use Rattle.ex_base.specs.declared.names.Place.{Place}
use Rattle.disk_model.specs.Outside.{Outside}
use Rattle.object_records.specs.Record.{Record, record_bytes}
use Rattle.slotted_pages.specs.Edits.{place_for, slots_of, vacant_at}
use Rattle.slotted_pages.specs.FilePage.{FilePage, Slot, SlotsOf}
use Rattle.slotted_pages.specs.Reads.{IsPage}
use Rattle.trees.specs.Trees.{Units}
use Rattle.volume_model.specs.Homes.{home}
use Rattle.history_writes.specs.declared.file_pages.FilePages.{FilePages}

-- ---- what stands on pages

abbrev pub slot_for : Record → Slot
slot_for r = Some (record_bytes r)

-- the page of a file that has these records, one behind the other
abbrev pub page_of : ℕ → List Record → FilePage
page_of file_no records = record { file_no = file_no; slots = map slot_for records }

abbrev pub all_of : List (List Record) → List Record
all_of pages = flat_map (λ (records : List Record). records) pages

-- Pages in a row have these records, some on each.
abbrev pub ArePagesOn : Units → ℕ → ℕ → List (List Record) → Type 0
ArePagesOn units file_no page [] = Unit {0}
ArePagesOn units file_no page (records ∷ pages) = SlotsOf (units page) (page_of file_no records) × (1 ≤ length records) × ArePagesOn units file_no (suc page) pages

-- The page is one of a file, and no slot of it is vacant.
pub record IsDense (page : List ℕ) : Type 0 where
  pub spelled : IsPage page
  pub dense : vacant_at (slots_of page) ≡ length (slots_of page)

-- ---- the file at hand

-- The records are laid: all but the last ones on pages that are written, and those on the page at hand.
pub record AreLaid (units : Units) (file : FilePages) (records : List Record) : Type 0 where
  pub full : List (List Record)
  pub last : List Record
  pub records_are : records ≡ all_of full ++ last
  pub count : file.written ≡ length full
  pub pages : ArePagesOn units file.file_no file.first full
  pub at_hand : SlotsOf file.page.items (page_of file.file_no last)

-- the records of all pages with one more record: behind those of the page at hand where it got a slot there, and else on a page of its own
abbrev pub rows_after : List (List Record) → List Record → Record → Option ℕ → List (List Record)
rows_after full last r None = full ++ last ∷ (r ∷ []) ∷ []
rows_after full last r (Some slot) = full ++ (last ++ r ∷ []) ∷ []

-- Whatever records were laid, those and one more are, each where it was.
abbrev pub LaysRecord : Geometry → Outside → Outside → FilePages → FilePages → Record → Type 0
LaysRecord g was now old new r = (image : List ℕ) (records : List Record) → was.disk ≡ Some image → (laid : AreLaid (home g image) old records)
    → (later : List ℕ) × (now.disk ≡ Some later) × (on : AreLaid (home g later) new (records ++ r ∷ []))
    × (on.full ++ on.last ∷ [] ≡ rows_after laid.full laid.last r (place_for (length old.page.items) (slots_of old.page.items) (length (record_bytes r))))

-- Whatever records were laid, they are now, those of the page at hand on a page that is written.
abbrev pub LeavesPage : Geometry → Outside → Outside → FilePages → FilePages → Type 0
LeavesPage g was now old new = (image : List ℕ) (records : List Record) → was.disk ≡ Some image → (laid : AreLaid (home g image) old records)
    → (later : List ℕ) × (now.disk ≡ Some later) × (on : AreLaid (home g later) new records) × (on.full ≡ laid.full ++ laid.last ∷ []) × (on.last ≡ [])

-- All records stand on pages in a row, which begin with the file's first one.
pub record IsClosed (units : Units) (file : FilePages) (records : List Record) : Type 0 where
  pub pages : List (List Record)
  pub records_are : records ≡ all_of pages
  pub count : file.written ≡ length pages
  pub are : ArePagesOn units file.file_no file.first pages

-- They are those that were laid, with the page at hand, if that has records.
abbrev pub AreRowsOf : List (List Record) → List (List Record) → List Record → Type 0
AreRowsOf pages full last = (pages ≡ full ++ last ∷ []) ⊎ ((pages ≡ full) × (last ≡ []))

-- Whatever records were laid, they stand on pages now, each where it was laid.
abbrev pub ClosesFile : Geometry → Outside → Outside → FilePages → FilePages → Type 0
ClosesFile g was now old new = (image : List ℕ) (records : List Record) → was.disk ≡ Some image → (laid : AreLaid (home g image) old records)
    → (later : List ℕ) × (now.disk ≡ Some later) × (closed : IsClosed (home g later) new records) × AreRowsOf closed.pages laid.full laid.last

-- how many pages are written, where a record got this slot of the page at hand, or had no room there
abbrev pub written_after : ℕ → Option ℕ → ℕ
written_after written None = suc written
written_after written (Some slot) = written

-- the slots of the page at hand with one more body: behind the others where it got a slot there, and else alone
abbrev pub slots_after : List Slot → List ℕ → Option ℕ → List Slot
slots_after slots body None = Some body ∷ []
slots_after slots body (Some slot) = slots ++ Some body ∷ []

-- The place is that of the last slot of the page at hand.
pub record IsLastPlace (file : FilePages) (place : Place) : Type 0 where
  pub page : place.page.0 ≡ file.first + file.written
  pub slot : suc place.slot ≡ length (slots_of file.page.items)

-- The file, its first page and the size of the page at hand are the same.
pub record SameFile (old new : FilePages) : Type 0 where
  pub file_no : new.file_no ≡ old.file_no
  pub first : new.first ≡ old.first
  pub size : length new.page.items ≡ length old.page.items

-- As many pages are written, and the page at hand is the same.
pub record IsAsBefore (old new : FilePages) : Type 0 where
  pub written : new.written ≡ old.written
  pub page : new.page.items ≡ old.page.items
