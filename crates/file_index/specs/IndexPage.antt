-- What stands on an index page.
use Rattle.std.specs.Prelude.{◌≡◌, ℕ, zero, suc, ◌+◌, ◌-◌, ◌*◌, ◌/◌, ◌<◌, ◌≤◌, ◌^◌, List, [], ◌∷◌, ◌++◌, length, drop, slice_index}
use Rattle.std.specs.List.{flat_map, AllByRecursion}
use Rattle.ex_base.specs.Fields.{two_bytes, four_bytes, zeros, padded, number_at}
use Rattle.file_index.specs.declared.Entry.{Entry}

-- a key and a page
abbrev pub entry_bytes : Entry → List ℕ
entry_bytes entry = four_bytes entry.key ++ four_bytes entry.page.0

-- kind 4, the level, the number of entries, the file's number
abbrev pub head_bytes : ℕ → ℕ → ℕ → List ℕ
head_bytes level file_no n = (4 ∷ level ∷ []) ++ (two_bytes n ++ (zeros 4 ++ (four_bytes file_no ++ zeros 4)))

-- the head and the entries, zeros behind them
unfoldable pub index_page : ℕ → ℕ → ℕ → List Entry → List ℕ
index_page size level file_no entries = padded size (head_bytes level file_no (length entries) ++ flat_map entry_bytes entries)

-- the most entries of an index page
abbrev pub most_entries : ℕ → ℕ
most_entries size = (size - 16) / 8

-- keys rise strictly, from a least number on
abbrev pub RiseFrom : ℕ → List Entry → Type 0
RiseFrom least [] = Unit {0}
RiseFrom least (entry ∷ entries) = (least ≤ entry.key) × RiseFrom (entry.key + 1) entries

abbrev pub HasEntryFields : Entry → Type 0
HasEntryFields entry = (entry.key < 2 ^ 32) × (entry.page.0 < 2 ^ 32)

-- what has a page of this size
pub record IsIndexPage (size level file_no : ℕ) (entries : List Entry) : Type 0 where
  pub inner : 1 ≤ level
  pub byte : level < 256
  pub number : file_no < 2 ^ 32
  pub some : 1 ≤ length entries
  pub few : length entries < 2 ^ 16
  pub room : 16 + 8 * length entries ≤ size
  pub rising : RiseFrom 0 entries
  pub fields : AllByRecursion HasEntryFields entries

-- the page is the index page of this level and file with these entries
pub record EntriesOf (page : List ℕ) (level file_no : ℕ) (entries : List Entry) : Type 0 where
  pub fits : IsIndexPage (length page) level file_no entries
  pub spelled : page ≡ index_page (length page) level file_no entries

-- the entries as they are read, whatever stands on the page
abbrev pub entry_at : List ℕ → Entry
entry_at bytes = record { key = number_at 4 bytes 0; page = record { 0 = number_at 4 bytes 4 } }

abbrev pub read_entries : ℕ → List ℕ → List Entry
read_entries zero bytes = []
read_entries (suc n) bytes = entry_at bytes ∷ read_entries n (drop 8 bytes)

unfoldable pub level_on : List ℕ → ℕ
level_on page = slice_index page 1

unfoldable pub file_on : List ℕ → ℕ
file_on page = number_at 4 page 8

unfoldable pub entries_on : List ℕ → List Entry
entries_on page = read_entries (number_at 2 page 2) (drop 16 page)

-- ---- what callers see of an index page

pub record Indexed : Type 0 where
  pub level : ℕ
  pub file_no : ℕ
  pub entries : List Entry

abbrev pub indexed_on : List ℕ → Indexed
indexed_on page = record { level = level_on page; file_no = file_on page; entries = entries_on page }
