-- What a page has to show to be the catalog, field by field, and its entries as they are read.
use Rattle.std.specs.Prelude.{◌≡◌, ◌≢◌, ℕ, zero, suc, ◌+◌, ◌-◌, ◌*◌, ◌<◌, ◌≤◌, true, List, [], ◌∷◌, length, drop, slice_index}
use Rattle.std.specs.List.{AllByRecursion}
use Rattle.std.specs.Ordering.{nat_cmp}
use Rattle.std.specs.Cmp.Lexicographic.{slice_cmp}
use Rattle.std.specs.declared.cmp.Ordering.TheVariants.{Less}
use Rattle.ex_base.specs.Bytes.{bytes_at}
use Rattle.ex_base.specs.Fields.{number_at, page_in, AreZero}
use Rattle.object_files.specs.declared.Entry.{Entry}
use Rattle.object_files.specs.Catalog.{FileEntry, Catalog, is_name_byte}

-- the entry that begins at a position, as it is read
abbrev pub name_in : List ℕ → ℕ → List ℕ
name_in page at = bytes_at page (at + 1) (slice_index page at)

abbrev pub number_in : List ℕ → ℕ → ℕ
number_in page at = number_at 4 page (at + 40)

abbrev pub entry_in : List ℕ → ℕ → FileEntry
entry_in page at = record { name = name_in page at; level = slice_index page (at + 33); root = page_in page (at + 36); file_no = number_in page at }

-- so many entries, the first of which begins at a position
abbrev pub read_entries : List ℕ → ℕ → ℕ → List FileEntry
read_entries page zero at = []
read_entries page (suc n) at = entry_in page at ∷ read_entries page n (at + 48)

abbrev pub count_on : List ℕ → ℕ
count_on page = number_at 2 page 2

unfoldable pub catalog_on : List ℕ → Catalog
catalog_on page = record { next_unique = number_at 8 page 8; last = number_at 8 page 16; entries = read_entries page (count_on page) 32 }

pub record EntryReads (page : List ℕ) (at : ℕ) : Type 0 where
  pub some : 1 ≤ slice_index page at
  pub short : slice_index page at ≤ 32
  pub bytes : AllByRecursion (λ b. is_name_byte b ≡ true) (name_in page at)
  pub fill : AreZero (bytes_at page (at + 1 + slice_index page at) (32 - slice_index page at))
  pub level : slice_index page (at + 33) ≤ 5
  pub gap : AreZero (bytes_at page (at + 34) 2)
  pub rooted : 0 < slice_index page (at + 33) → 0 < number_at 4 page (at + 36)
  pub number : 1 ≤ number_in page at
  pub rest : AreZero (bytes_at page (at + 44) 4)

-- where an entry begins
abbrev pub entry_at : ℕ → ℕ
entry_at i = 32 + 48 * i

abbrev pub EachReads : List ℕ → ℕ → Type 0
EachReads page n = (i : ℕ) → i < n → EntryReads page (entry_at i)

abbrev pub NamesRise : List ℕ → ℕ → Type 0
NamesRise page n = (i : ℕ) → i + 1 < n → slice_cmp nat_cmp (name_in page (entry_at i)) (name_in page (entry_at (i + 1))) ≡ Less

-- no later entry has the number of this one
abbrev pub DiffersBehind : List ℕ → ℕ → ℕ → Type 0
DiffersBehind page n i = (j : ℕ) → i < j → j < n → number_in page (entry_at i) ≢ number_in page (entry_at j)

abbrev pub NumbersDiffer : List ℕ → ℕ → Type 0
NumbersDiffer page n = (i : ℕ) → i < n → DiffersBehind page n i

pub record CatalogReads (page : List ℕ) : Type 0 where
  pub long : 32 ≤ length page
  pub size : length page ≤ 8192
  pub kind : slice_index page 0 ≡ 1
  pub second : slice_index page 1 ≡ 0
  pub gap : AreZero (bytes_at page 4 4)
  pub some_next : 1 ≤ number_at 8 page 8
  pub gap_eight : AreZero (bytes_at page 24 8)
  pub room : 32 + 48 * count_on page ≤ length page
  pub entries : EachReads page (count_on page)
  pub sorted : NamesRise page (count_on page)
  pub numbers : NumbersDiffer page (count_on page)
  pub rest : AreZero (drop (32 + 48 * count_on page) page)

-- what an entry of a view stands for
abbrev pub entry_of : Entry → FileEntry
entry_of e = record { name = e.name.now; level = e.level; root = e.root; file_no = e.file_no }

abbrev pub with_numbers : Catalog → ℕ → ℕ → Catalog
with_numbers c next_unique last = record { next_unique = next_unique; last = last; entries = c.entries }
