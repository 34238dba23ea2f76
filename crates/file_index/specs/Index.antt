-- The index of a file over pages: a tree whose leaves are the pages of the file.
use Rattle.std.specs.Prelude.{◌≡◌, ◌≢◌, ◌≤◌, ◌+◌, ◌/◌, ℕ, zero, suc, List, [], ◌∷◌, length, Option, Some, None}
use Rattle.std.specs.List.{flat_map, AllByRecursion}
use Rattle.ex_base.specs.declared.geometry.Geometry.{Geometry}
use Rattle.ex_base.specs.declared.names.PageNo.{PageNo}
use Rattle.ex_base.specs.declared.faults.Seen.{Seen}
use Rattle.ex_base.specs.Seen.{index_seen}
use Rattle.ex_base.specs.Area.{InPageArea, catalog_no}
use Rattle.ex_base.specs.Order.{Rising}
use Rattle.ex_base.specs.Ports.{times}
use Rattle.file_index.specs.declared.Entry.{Entry}
use Rattle.file_index.specs.IndexPage.{EntriesOf, entries_on, most_entries}

-- the page may be one of a file: it lies in the page area and is not the catalog
abbrev pub IsFilesPage : Geometry → ℕ → Type 0
IsFilesPage g page = InPageArea g page × (page ≢ catalog_no)

-- the least key that a parent gives; none for a root
abbrev pub HasKey : Option ℕ → ℕ → Type 0
HasKey None key = Unit {0}
HasKey (Some least) key = key ≡ least

abbrev pub HasLeast : Option ℕ → List Entry → Type 0
HasLeast least [] = ⊥
HasLeast least (entry ∷ entries) = HasKey least entry.key

-- the least number of entries: 2 for a root, half of the most for another page
abbrev pub least_entries : ℕ → Option ℕ → ℕ
least_entries size None = 2
least_entries size (Some least) = most_entries size / 2

-- what a parent says of an index page: the level and the least key, 0 for a root
abbrev pub key_total : Option ℕ → ℕ
key_total None = 0
key_total (Some least) = least

abbrev pub seen : ℕ → Option ℕ → Seen
seen level least = index_seen level (key_total least)

-- the least key of a page that is no root
abbrev pub key_seen : Option ℕ → ℕ → Option ℕ
key_seen None key = None
key_seen (Some least) key = Some key

-- the page is what names it: an index page of this level and file, with a number of entries that pages of this size may have, which is two at least, and
-- this least key
pub record IsNamed (size : ℕ) (page : List ℕ) (level file_no : ℕ) (least : Option ℕ) : Type 0 where
  pub spelled : EntriesOf page level file_no (entries_on page)
  pub two : 2 ≤ length (entries_on page)
  pub enough : least_entries size least ≤ length (entries_on page)
  pub least_is : HasLeast least (entries_on page)

-- the file pages that an index of a level names, from left to right: at level 0 the page itself
abbrev pub keys_under : (ℕ → List ℕ) → ℕ → ℕ → List ℕ
keys_under image zero page = page ∷ []
keys_under image (suc level) page = flat_map (λ (entry : Entry). keys_under image level entry.page.0) (entries_on (image page))

-- its index pages
abbrev pub pages_under : (ℕ → List ℕ) → ℕ → ℕ → List ℕ
pages_under image zero page = []
pages_under image (suc level) page = page ∷ flat_map (λ (entry : Entry). pages_under image level entry.page.0) (entries_on (image page))

-- what the page names is an index of this level
abbrev pub IsUnder : Geometry → ℕ → (ℕ → List ℕ) → ℕ → Option ℕ → ℕ → Type 0
IsUnder g file_no image zero least page = IsFilesPage g page × HasKey least page
IsUnder g file_no image (suc level) least page =
    IsFilesPage g page × IsNamed g.page_size (image page) (suc level) file_no least
    × AllByRecursion (λ (entry : Entry). IsUnder g file_no image level (Some entry.key) entry.page.0) (entries_on (image page))

-- the most levels of an index
abbrev pub index_level_most : ℕ
index_level_most = 5

-- numbers rise strictly, from a least one on
abbrev pub Rises : ℕ → List ℕ → Type 0
Rises least [] = Unit {0}
Rises least (x ∷ xs) = (least ≤ x) × Rises (x + 1) xs

-- the file pages of an index, and its index pages
abbrev pub keys_of : (ℕ → List ℕ) → ℕ → Option PageNo → List ℕ
keys_of image level None = []
keys_of image level (Some page) = keys_under image level page.0

abbrev pub pages_of : (ℕ → List ℕ) → ℕ → Option PageNo → List ℕ
pages_of image level None = []
pages_of image level (Some page) = pages_under image level page.0

-- an index without a root has level 0
abbrev pub HasRoot : ℕ → Option PageNo → Type 0
HasRoot level None = level ≡ 0
HasRoot level (Some page) = Unit {0}

-- the root, where there is one, may be a page of a file
abbrev pub HasPlacedRoot : Geometry → Option PageNo → Type 0
HasPlacedRoot g None = Unit {0}
HasPlacedRoot g (Some page) = IsFilesPage g page.0

abbrev pub IsRoot : Geometry → ℕ → (ℕ → List ℕ) → ℕ → Option PageNo → Type 0
IsRoot g file_no image level None = level ≡ 0
IsRoot g file_no image level (Some page) = IsUnder g file_no image level None page.0

-- The index is whole: each page is what names it, the pages of the file rise strictly from left to right, and no index page is named twice.
pub record IsIndex (g : Geometry) (image : ℕ → List ℕ) (file_no level : ℕ) (root : Option PageNo) : Type 0 where
  pub whole : IsRoot g file_no image level root
  pub rising : Rising (keys_of image level root)
  pub once : (page : ℕ) → times page (pages_of image level root) ≤ 1
