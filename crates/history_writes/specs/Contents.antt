-- What a file is whose records stand on pages in a row.
use Rattle.std.specs.Prelude.{ℕ, suc, List, [], ◌∷◌, ◌++◌, map}
use Rattle.std.specs.List.{AllByRecursion, AllZip}
use Rattle.object_files.specs.Catalog.{FileEntry}
use Rattle.object_records.specs.Record.{IsRecord, Record}
use Rattle.trees.specs.Trees.{Units}
use Rattle.volume_model.specs.Parts.{HasPages, IsStored, bodies_in}
use Rattle.volume_model.specs.Volume.{FileContent, Stored}
use Rattle.history_writes.specs.Laid.{ArePagesOn, page_of}

-- the numbers of the pages
abbrev pub in_row : ℕ → List (List Record) → List ℕ
in_row page [] = []
in_row page (records ∷ pages) = page ∷ in_row (suc page) pages

-- the records of a page from a slot on, each at its place
abbrev pub placed_from : ℕ → ℕ → List Record → List Stored
placed_from page slot [] = []
placed_from page slot (r ∷ records) = record { place = record { page = record { 0 = page }; slot = slot }; body = r } ∷ placed_from page (suc slot) records

-- those of all pages
abbrev pub placed_in : ℕ → List (List Record) → List Stored
placed_in page [] = []
placed_in page (records ∷ pages) = placed_from page 0 records ++ placed_in (suc page) pages

-- the file, with the pages of its index
abbrev pub content_on : ℕ → ℕ → List ℕ → List (List Record) → FileContent
content_on file_no first index_pages pages = record { numbers = in_row first pages; index_pages = index_pages; pages = map (page_of file_no) pages; stored = placed_in first pages }

-- Its pages are those of the catalog's entry, and what stands in their slots are its records.
pub record HoldsRecords (units : Units) (entry : FileEntry) (file : FileContent) : Type 0 where
  pub pages : HasPages units entry file
  pub records : AllZip IsStored (bodies_in file) file.stored

-- Pages in a row that have records are a file of these records.
abbrev pub RowsAreFiles : Type 0
RowsAreFiles = (units : Units) (entry : FileEntry) (first : ℕ) (index_pages : List ℕ) (pages : List (List Record)) → ArePagesOn units entry.file_no first pages → AllByRecursion (AllByRecursion IsRecord) pages
    → HoldsRecords units entry (content_on entry.file_no first index_pages pages)
