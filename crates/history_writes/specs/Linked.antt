-- Records that get links.
use Rattle.std.specs.Prelude.{◌≡◌, ◌≢◌, ℕ, List, [], ◌∷◌, drop, length, Some}
use Rattle.std.specs.List.{AllByRecursion}
use Rattle.disk_model.specs.Outside.{Outside}
use Rattle.ex_base.specs.declared.geometry.Geometry.{Geometry}
use Rattle.ex_base.specs.Area.{IsUnit}
use Rattle.ex_base.specs.Fields.{IsPlaceField}
use Rattle.object_records.specs.declared.Head.{Head}
use Rattle.object_records.specs.Record.{IsRecord, NewerFits, Record}
use Rattle.slotted_pages.specs.FilePage.{SlotsOf}
use Rattle.volume_model.specs.Homes.{home}
use Rattle.history_links.specs.declared.Links.{Links}
use Rattle.history_writes.specs.declared.rows.Desk.{Desk}
use Rattle.history_writes.specs.Laid.{ArePagesOn, all_of, page_of}

-- ---- one record

abbrev pub head_linked : Links → Head → Head
head_linked links head = record { state = head.state; unique = head.unique; older = links.older; newer = links.newer }

-- the record with these links, and all else as it is
abbrev pub record_linked : Links → Record → Record
record_linked links r = record { head = head_linked links r.head; content = r.content }

-- Both places have fields.
abbrev pub HaveFields : Links → Type 0
HaveFields links = IsPlaceField links.older × IsPlaceField links.newer

-- A record may have these links.
abbrev pub MayHave : Links → Record → Type 0
MayHave links r = NewerFits r.head.state links.newer

-- ---- records one behind the other, and pages in a row

-- each with its own links, as far as there are some
abbrev pub records_linked : List Links → List Record → List Record
records_linked links [] = []
records_linked [] (r ∷ records) = []
records_linked (one ∷ links) (r ∷ records) = record_linked one r ∷ records_linked links records

-- There are links for each record, which may have them.
abbrev pub AllMayHave : List Links → List Record → Type 0
AllMayHave links [] = Unit {0}
AllMayHave [] (r ∷ records) = ⊥
AllMayHave (one ∷ links) (r ∷ records) = MayHave one r × AllMayHave links records

-- the records of pages, each page with the links behind those of the pages before it
abbrev pub rows_linked : List Links → List (List Record) → List (List Record)
rows_linked links [] = []
rows_linked links (records ∷ pages) = records_linked links records ∷ rows_linked (drop (length records) links) pages

-- Pages in a row of the disk have records of a file, each of which may have its links.
pub record MayBeLinked (g : Geometry) (image : List ℕ) (file_no first : ℕ) (links : List Links) (pages : List (List Record)) : Type 0 where
  pub are : ArePagesOn (home g image) file_no first pages
  pub records : AllByRecursion (AllByRecursion IsRecord) pages
  pub may : AllMayHave links (all_of pages)

-- Whatever records of a file stood on so many pages, they have their links now.
abbrev pub LinksPages : Geometry → Outside → Outside → ℕ → ℕ → List Links → Type 0
LinksPages g was now first count links = (image : List ℕ) (file_no : ℕ) (pages : List (List Record)) → was.disk ≡ Some image → length pages ≡ count → MayBeLinked g image file_no first links pages
    → (later : List ℕ) × (now.disk ≡ Some later) × ArePagesOn (home g later) file_no first (rows_linked links pages)

-- No records of a file that may have these links stand on so many pages.
abbrev pub HasNoRows : Geometry → Outside → ℕ → ℕ → List Links → Type 0
HasNoRows g was first count links = (image : List ℕ) (file_no : ℕ) (pages : List (List Record)) → was.disk ≡ Some image → length pages ≡ count → MayBeLinked g image file_no first links pages → ⊥

-- ---- one page

-- Every unit of one image is as in another one, but for a page: whatever records of a file stood on that, they have their links.
pub record IsPageLinked (g : Geometry) (image later : List ℕ) (page : ℕ) (links : List Links) : Type 0 where
  pub others : (unit : ℕ) → IsUnit g unit → unit ≢ page → home g later unit ≡ home g image unit
  pub linked : (file_no : ℕ) (records : List Record) → SlotsOf (home g image page) (page_of file_no records) → AllByRecursion IsRecord records → SlotsOf (home g later page) (page_of file_no (records_linked links records))

-- Whatever stood on the disk, so does it now, with the links of the records of a page.
abbrev pub LinksPage : Geometry → Outside → Outside → ℕ → List Links → Type 0
LinksPage g was now page links = (image : List ℕ) → was.disk ≡ Some image → (later : List ℕ) × (now.disk ≡ Some later) × IsPageLinked g image later page links

-- No records of a file that may have these links stand on a page.
abbrev pub HasNone : Geometry → Outside → ℕ → List Links → Type 0
HasNone g was page links = (image : List ℕ) (file_no : ℕ) (records : List Record) → was.disk ≡ Some image → SlotsOf (home g image page) (page_of file_no records) → AllByRecursion IsRecord records → AllMayHave links records → ⊥

-- On a page stand so many records, if it is one of a file.
abbrev pub CountsRecords : Geometry → Outside → ℕ → ℕ → Type 0
CountsRecords g was page count = (image : List ℕ) (file_no : ℕ) (records : List Record) → was.disk ≡ Some image → SlotsOf (home g image page) (page_of file_no records) → count ≡ length records

-- ---- the desk

-- It has room for two pages and a record.
pub record IsDesk (g : Geometry) (desk : Desk) : Type 0 where
  pub read : length desk.read.items ≡ g.page_size
  pub page : length desk.page.items ≡ g.page_size
  pub body : length desk.record.items ≡ g.page_size
