-- What an edit does to the entries of the catalog.
use Rattle.std.specs.Prelude.{ℕ, ◌<◌, ◌≤◌, ◌==◌, Bool, not, if◌then◌else◌, List, [], ◌∷◌, map, filter, bytes_eq, Option, None, Contains}
use Rattle.std.specs.Cmp.Lexicographic.{slice_cmp}
use Rattle.std.specs.Ordering.{nat_cmp, is_lt}
use Rattle.ex_base.specs.declared.names.PageNo.{PageNo}
use Rattle.object_files.specs.Catalog.{FileEntry, Catalog, CatalogOf, number_of}
use Rattle.object_files.specs.Reads.{catalog_on}

-- the page is the catalog, of what is read on it
abbrev pub IsCatalogPage : List ℕ → Type 0
IsCatalogPage page = CatalogOf page (catalog_on page)

abbrev pub entries_on : List ℕ → List FileEntry
entries_on page = (catalog_on page).entries

-- the numbers of the files
abbrev pub numbers_on : List ℕ → List ℕ
numbers_on page = map number_of (entries_on page)

abbrev pub with_entries : Catalog → List FileEntry → Catalog
with_entries c entries = record c { entries = entries }

-- a file without pages
abbrev pub new_file : List ℕ → ℕ → FileEntry
new_file name file_no = record { name = name; level = 0; root = None; file_no = file_no }

abbrev pub has_name : List ℕ → FileEntry → Bool
has_name name e = bytes_eq e.name name

-- a file put in before the first whose name comes later
abbrev pub entry_inserted : FileEntry → List FileEntry → List FileEntry
entry_inserted e [] = e ∷ []
entry_inserted e (f ∷ fs) = if is_lt (slice_cmp nat_cmp e.name f.name) then e ∷ f ∷ fs else f ∷ entry_inserted e fs

-- the entries but that of the file with a name
abbrev pub without_name : List ℕ → List FileEntry → List FileEntry
without_name name entries = filter (λ e. not (has_name name e)) entries

-- the file with a number gets an index of a level and a root, each other file stays
abbrev pub indexed : ℕ → ℕ → Option PageNo → FileEntry → FileEntry
indexed file_no level root e = if e.file_no == file_no then record e { level = level; root = root } else e

-- the lowest number from 1 on that isn't in the list
pub record IsLowestUnused (numbers : List ℕ) (n : ℕ) : Type 0 where
  pub some : 1 ≤ n
  pub unused : ¬ Contains numbers n
  pub lowest : (k : ℕ) → 1 ≤ k → k < n → Contains numbers k
