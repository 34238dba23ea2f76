-- What stands after index pages were written.
use Rattle.std.specs.Prelude.{◌≡◌, ◌≢◌, ◌≤◌, ◌<◌, ◌+◌, ◌-◌, ◌/◌, ◌^◌, ℕ, Bool, true, false, nat_lt, if◌then◌else◌, List, [], ◌∷◌, ◌++◌, length, take, drop, Option, Some, None, slice_index_or}
use Rattle.std.specs.List.{AllByRecursion}
use Rattle.ex_base.specs.declared.ground.Ground as ground
use Rattle.file_index.specs.declared.Entry.{Entry}
use Rattle.file_index.specs.IndexPage.{index_page, most_entries, HasEntryFields}
use Rattle.ex_base.specs.declared.names.PageNo.{PageNo}
use Rattle.ex_base.specs.declared.names.Index.{Index}
use Rattle.file_index.specs.declared.spreading.Pair.{Pair}
use Rattle.file_index.specs.Changes.{Changes}
use Rattle.file_index.specs.Index.{IsFilesPage}

-- how many of so many entries stand on the left one of two pages: the greater half
abbrev pub left_part : ℕ → ℕ
left_part n = n - n / 2

-- the key of the first entry
abbrev pub first_key : List Entry → ℕ
first_key [] = 0
first_key (entry ∷ entries) = entry.key

-- the page is an index page with these entries
pub record IsWritten {S : Type 0} (g : ground.Ghosts S) (s : S) (page level file_no : ℕ) (entries : List Entry) : Type 0 where
  pub files : IsFilesPage (g.geometry s) page
  pub inner : 1 ≤ level
  pub byte : level < 256
  pub number : file_no < 2 ^ 32
  pub some : 1 ≤ length entries
  pub room : length entries ≤ most_entries (g.geometry s).page_size
  pub fields : AllByRecursion HasEntryFields entries
  pub image : g.image s page ≡ index_page (g.geometry s).page_size level file_no entries

-- A page was taken for entries, and an index of this level has it as its root.
pub record IsRootOver {S : Type 0} (g : ground.Ghosts S) (old new : S) (level file_no : ℕ) (entries : List Entry) (index : Index) : Type 0 where
  pub page : PageNo
  pub is : index ≡ record { root = Some page; level = level; file_no = file_no }
  pub changes : Changes g old new [] (page.0 ∷ [])
  pub written : g.tells old → IsWritten g new page.0 level file_no entries

-- the page has all the entries, or the greater half of them, and a second page, which an entry names, the others
abbrev pub Stored : {S : Type 0} → ground.Ghosts S → S → ℕ → ℕ → ℕ → List Entry → Option Entry → Type 0
Stored g s page level file_no entries None = IsWritten g s page level file_no entries
Stored g s page level file_no entries (Some second) =
    (most_entries (g.geometry s).page_size < length entries)
    × (second.key ≡ first_key (drop (left_part (length entries)) entries))
    × IsWritten g s page level file_no (take (left_part (length entries)) entries)
    × IsWritten g s second.page.0 level file_no (drop (left_part (length entries)) entries)

-- the pages that entries name
abbrev pub heads : List Entry → List ℕ
heads [] = []
heads (entry ∷ entries) = entry.page.0 ∷ heads entries

-- The entry that a key leads to: the last one whose key is not above it, else the first one.
pub record IsPlace (key : ℕ) (entries : List Entry) (at : ℕ) : Type 0 where
  pub inside : at < length entries
  pub low : 0 < at → (entry : Entry) → (slice_index_or entries at entry).key ≤ key
  pub high : at + 1 < length entries → (entry : Entry) → key < (slice_index_or entries (at + 1) entry).key

-- a page of the file and an entry, in order of their keys
abbrev pub leaves_of : ℕ → Entry → List Entry
leaves_of key beside =
    if nat_lt key beside.key
    then record { key = key; page = record { 0 = key } } ∷ beside ∷ []
    else beside ∷ record { key = key; page = record { 0 = key } } ∷ []

-- A page of the file stands beside an entry, in order of the keys; where it is the page of the entry, nothing changes.
abbrev pub PutsLeaf : ℕ → ℕ → Entry → List Entry → List Entry → Bool → Type 0
PutsLeaf key at beside old new false = (beside.key ≡ key) × (new ≡ old)
PutsLeaf key at beside old new true = (beside.key ≢ key) × (new ≡ take at old ++ (leaves_of key beside ++ drop (at + 1) old))

-- The page of the file that an entry names leaves, where it is the key's; else nothing changes.
abbrev pub RemovesLeaf : ℕ → ℕ → Entry → List Entry → List Entry → Bool → Type 0
RemovesLeaf key at leaf old new false = (leaf.key ≢ key) × (new ≡ old)
RemovesLeaf key at leaf old new true = (leaf.key ≡ key) × (new ≡ take at old ++ drop (at + 1) old)

-- the entries of a page and of the one beside it, in order
abbrev pub joined : Bool → List Entry → List Entry → List Entry
joined own_is_left own other = if own_is_left then own ++ other else other ++ own

-- the page of two that has too few entries, and the one beside it
abbrev pub thin_of : Pair → Entry
thin_of pair = if pair.thin_is_left then pair.left else pair.right

abbrev pub beside_of : Pair → Entry
beside_of pair = if pair.thin_is_left then pair.right else pair.left
