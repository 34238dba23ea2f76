-- The pages with records, and the records on them, as they read.
use Rattle.std.specs.Prelude.{◌≡◌, ◌≤◌, ℕ, List, [], ◌∷◌, ◌++◌, length, map, Option, Some}
use Rattle.std.specs.List.{flat_map, AllByRecursion}
use Rattle.ex_base.specs.declared.names.Place.{Place}
use Rattle.ex_base.specs.declared.names.Root.{Root}
use Rattle.slotted_pages.specs.FilePage.{SlotsOf}
use Rattle.slotted_pages.specs.Reads.{page_on}
use Rattle.object_records.specs.Record.{BodyOf, IsRootField}
use Rattle.object_records.specs.Reads.{record_on}
use Rattle.object_files.specs.Catalog.{FileEntry}
use Rattle.trees.specs.Trees.{Units}
use Rattle.volume_model.specs.Volume.{Stored}
use Rattle.volume_model.specs.Parts.{HasPage, bodies_from}
use Rattle.record_links.specs.Links.{AreLinked}
use Rattle.file_walk.specs.declared.Found.{Found}
use Rattle.file_walk.specs.declared.records.Standing.{Standing}
use Rattle.file_walk.specs.declared.indexes.FilePages.{FilePages}
use Rattle.file_walk.specs.Walk.{page_numbers}
use Rattle.file_walk.specs.Objects.{AddsNumbered, links_of, standing_of}

-- a body at its place, as it reads
abbrev pub stored_at : Place × List ℕ → Stored
stored_at row = record { place = row.0; body = record_on row.1 }

abbrev pub standing_at : Place × List ℕ → Standing
standing_at row = standing_of (stored_at row)

-- the body is a record
abbrev pub IsGoodRow : Place × List ℕ → Type 0
IsGoodRow row = BodyOf row.1 (record_on row.1)

-- the bodies on a page, and on pages
abbrev pub rows_on : Units → ℕ → List (Place × List ℕ)
rows_on units page = bodies_from page 0 (page_on (units page)).slots

abbrev pub rows_among : Units → List ℕ → List (Place × List ℕ)
rows_among units pages = flat_map (rows_on units) pages

-- the page reads as a page of the file of an entry
abbrev pub IsPageOf : Units → FileEntry → ℕ → Type 0
IsPageOf units entry page = HasPage units entry page (page_on (units page))

-- a root that is there has the fields of a root
abbrev pub HasFields : Option Root → Type 0
HasFields found = (root : Root) → found ≡ Some root → IsRootField root

-- the root of a large record has the fields of a root
abbrev pub HasRootFields : Found → Type 0
HasRootFields found = HasFields found.root

-- the same of each record
abbrev pub AreRooted : List Standing → Type 0
AreRooted records = AllByRecursion (λ (s : Standing). HasFields s.root) records

-- The records are good, and were added.
pub record AddsRows (old new : List Standing) (rows : List (Place × List ℕ)) : Type 0 where
  pub good : AllByRecursion IsGoodRow rows
  pub records : new ≡ old ++ map standing_at rows

-- the page reads as one of the file with a number: in its grammar, with a record
pub record ShowsFile (page : List ℕ) (file_no : ℕ) : Type 0 where
  pub spelled : SlotsOf page (page_on page)
  pub some : 1 ≤ length (page_on page).slots
  pub number : (page_on page).file_no ≡ file_no

-- the pages with records read as pages of the file of an entry
abbrev pub AreFilePages : Units → FileEntry → FilePages → Type 0
AreFilePages units entry file = AllByRecursion (IsPageOf units entry) (page_numbers file.numbers.items)

-- the bodies of a file
abbrev pub rows_of : Units → FilePages → List (Place × List ℕ)
rows_of units file = rows_among units (page_numbers file.numbers.items)

-- ---- whole files

-- Each body of a file is a record, and these name each other.
pub record IsGoodFile (rows : List (Place × List ℕ)) : Type 0 where
  pub good : AllByRecursion IsGoodRow rows
  pub linked : AreLinked (links_of (map standing_at rows))

-- A file is good, and its records were added.
pub record AddsFile (old new : List Found) (rows : List (Place × List ℕ)) : Type 0 where
  pub good : IsGoodFile rows
  pub numbered : AddsNumbered old new (map standing_at rows)

-- the same of several files
abbrev pub AddsFiles : List Found → List Found → List (List (Place × List ℕ)) → Type 0
AddsFiles old new [] = new ≡ old
AddsFiles old new (rows ∷ files) = (mid : List Found) × AddsFile old mid rows × AddsFiles mid new files

-- the bodies of each file
abbrev pub files_rows : Units → List FilePages → List (List (Place × List ℕ))
files_rows units files = map (rows_of units) files
