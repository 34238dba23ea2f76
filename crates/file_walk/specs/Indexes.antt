-- What the walk over the indexes adds.
use Rattle.std.specs.Prelude.{◌≡◌, ◌≤◌, ◌+◌, ℕ, Bool, List, ◌++◌}
use Rattle.std.specs.List.{flat_map, AllByRecursion}
use Rattle.ex_base.specs.declared.geometry.Geometry.{Geometry}
use Rattle.ex_base.specs.Area.{InPageArea}
use Rattle.ex_base.specs.Order.{Rising}
use Rattle.ex_base.specs.Ports.{times}
use Rattle.page_alloc.specs.UnitSet.{UnitSet}
use Rattle.file_index.specs.Changes.{count_of}
use Rattle.file_index.specs.Index.{IsUnder, IsRoot, IsIndex, keys_under, pages_under, keys_of, pages_of}
use Rattle.object_files.specs.Catalog.{FileEntry}
use Rattle.trees.specs.Trees.{Units}
use Rattle.file_index.specs.declared.named.Named.{Named}
use Rattle.file_walk.specs.declared.indexes.FilePages.{FilePages}
use Rattle.file_walk.specs.Walk.{page_numbers, CountsUsed}

-- the pages of a file
abbrev pub walked_pages : FilePages → List ℕ
walked_pages file = page_numbers file.numbers.items ++ page_numbers file.index_pages.items

-- what is named is an index of its level, with its least key
abbrev pub IsNamedIndex : Geometry → Units → Named → Type 0
IsNamedIndex g units named = IsUnder g named.file_no units named.level named.least named.page.0

-- What is named is an index, which names each of its pages once and none that is used.
pub record IsFreeIndex (g : Geometry) (units : Units) (used : ℕ → Bool) (named : Named) : Type 0 where
  pub whole : IsNamedIndex g units named
  pub once : (page : ℕ) → times page (keys_under units named.level named.page.0) + times page (pages_under units named.level named.page.0) + count_of (used page) ≤ 1

-- What is named is an index, whose pages were added.
pub record AddsIndex (g : Geometry) (units : Units) (named : Named) (old new : FilePages) : Type 0 where
  pub whole : IsNamedIndex g units named
  pub numbers : page_numbers new.numbers.items ≡ page_numbers old.numbers.items ++ keys_under units named.level named.page.0
  pub index_pages : page_numbers new.index_pages.items ≡ page_numbers old.index_pages.items ++ pages_under units named.level named.page.0

-- Pages of the page area were added, which came into use.
pub record AddsPages (g : Geometry) (before after : UnitSet) (old new : FilePages) : Type 0 where
  pub counted : CountsUsed before after (walked_pages old) (walked_pages new)
  pub area : AllByRecursion (InPageArea g) (page_numbers old.numbers.items) → AllByRecursion (InPageArea g) (page_numbers new.numbers.items)
  pub index_area : AllByRecursion (InPageArea g) (page_numbers old.index_pages.items) → AllByRecursion (InPageArea g) (page_numbers new.index_pages.items)

-- the pages of the file of an entry
abbrev pub pages_named : Units → FileEntry → List ℕ
pages_named units entry = keys_of units entry.level entry.root ++ pages_of units entry.level entry.root

-- What an entry names is an index, which names each of its pages once and none that is used.
pub record IsFreeRoot (g : Geometry) (units : Units) (used : ℕ → Bool) (entry : FileEntry) : Type 0 where
  pub whole : IsRoot g entry.file_no units entry.level entry.root
  pub once : (page : ℕ) → times page (keys_of units entry.level entry.root) + times page (pages_of units entry.level entry.root) + count_of (used page) ≤ 1

-- What an entry names is an index, whose pages were added.
pub record AddsRoot (g : Geometry) (units : Units) (entry : FileEntry) (old new : FilePages) : Type 0 where
  pub whole : IsRoot g entry.file_no units entry.level entry.root
  pub numbers : page_numbers new.numbers.items ≡ page_numbers old.numbers.items ++ keys_of units entry.level entry.root
  pub index_pages : page_numbers new.index_pages.items ≡ page_numbers old.index_pages.items ++ pages_of units entry.level entry.root

-- the index of an entry is whole
abbrev pub IsEntryIndex : Geometry → Units → FileEntry → Type 0
IsEntryIndex g units entry = IsIndex g units entry.file_no entry.level entry.root

-- The index of an entry is whole, and these are its pages.
pub record IsWalked (g : Geometry) (units : Units) (entry : FileEntry) (file : FilePages) : Type 0 where
  pub whole : IsEntryIndex g units entry
  pub numbers : page_numbers file.numbers.items ≡ keys_of units entry.level entry.root
  pub index_pages : page_numbers file.index_pages.items ≡ pages_of units entry.level entry.root

-- the file's pages with records, and those of its index, lie in the page area
abbrev pub IsInArea : Geometry → FilePages → Type 0
IsInArea g file = AllByRecursion (InPageArea g) (page_numbers file.numbers.items) × AllByRecursion (InPageArea g) (page_numbers file.index_pages.items)

-- the numbers of a file's pages with records rise
abbrev pub HasRisingPages : FilePages → Type 0
HasRisingPages file = Rising (page_numbers file.numbers.items)

-- The indexes of the entries are whole, and name each of their pages once and none that is used.
pub record AreFreeIndexes (g : Geometry) (units : Units) (used : ℕ → Bool) (entries : List FileEntry) : Type 0 where
  pub whole : AllByRecursion (IsEntryIndex g units) entries
  pub once : (page : ℕ) → times page (flat_map (pages_named units) entries) + count_of (used page) ≤ 1
