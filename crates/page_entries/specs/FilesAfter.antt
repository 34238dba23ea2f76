-- The files of the catalog after some were removed and put.
use Rattle.std.specs.Prelude.{◌≡◌, ◌≢◌, ◌==◌, ◌&&◌, if◌then◌else◌, ℕ, ◌<◌, ◌≤◌, Bool, true, false, not, List, [], ◌∷◌, length, map, filter, Some, Contains, slice_get}
use Rattle.std.specs.List.{AllByRecursion, AllZip}
use Rattle.std.specs.Ordering.{nat_cmp}
use Rattle.std.specs.Cmp.Lexicographic.{slice_cmp}
use Rattle.std.specs.declared.cmp.Ordering.TheVariants.{Less}
use Rattle.object_files.specs.Catalog.{FileEntry, Catalog, IsCatalog, entry_bytes, number_of}
use Rattle.object_files.specs.Edits.{IsCatalogPage, entries_on, numbers_on, entry_inserted}
use Rattle.ex_base.specs.Fields.{number_at}
use Rattle.page_entries.specs.Said.{put_catalog}
use Rattle.page_entries.specs.Fronts.{removed_read, put_read}
use Rattle.page_entries.specs.declared.file_changes.Listed.{Listed}

-- the file is listed as its entry has it
pub record IsListed (file : Listed) (e : FileEntry) : Type 0 where
  pub name : file.name.now ≡ e.name
  pub bytes : file.bytes.now ≡ entry_bytes e

abbrev pub Lists : List Listed → List FileEntry → Type 0
Lists files es = AllZip IsListed files es

-- where a file stands among others, in order of names
pub record IsPlace (es : List FileEntry) (e : FileEntry) (at : ℕ) : Type 0 where
  pub within : at ≤ length es
  pub before : (k : ℕ) (f : FileEntry) → k < at → slice_get es k ≡ Some f → slice_cmp nat_cmp e.name f.name ≢ Less
  pub behind : (f : FileEntry) → slice_get es at ≡ Some f → slice_cmp nat_cmp e.name f.name ≡ Less

-- a number stands in the list
abbrev pub has_no : List ℕ → ℕ → Bool
has_no [] n = false
has_no (x ∷ xs) n = if x == n then true else has_no xs n

-- the file is neither removed nor replaced
abbrev pub stays : List ℕ → List FileEntry → FileEntry → Bool
stays removed put e = not (has_no removed e.file_no) && not (has_no (map number_of put) e.file_no)

abbrev pub files_put : List FileEntry → List FileEntry → List FileEntry
files_put [] entries = entries
files_put (e ∷ es) entries = entry_inserted e (files_put es entries)

abbrev pub files_after : List ℕ → List FileEntry → List FileEntry → List FileEntry
files_after removed put entries = files_put put (filter (stays removed put) entries)

abbrev pub catalog_after_files : ℕ → ℕ → List ℕ → List FileEntry → List ℕ → Catalog
catalog_after_files next_unique last removed put old = put_catalog next_unique last (files_after removed put (entries_on old))

-- the changes apply where the old page is the catalog, each removed file is there, and the new one is in the grammar of a page of its size
pub record FilesApply (old : List ℕ) (next_unique last : ℕ) (removed : List ℕ) (put : List FileEntry) : Type 0 where
  pub page : IsCatalogPage old
  pub there : AllByRecursion (λ n. Contains (numbers_on old) n) removed
  pub fits : IsCatalog (length old) (catalog_after_files next_unique last removed put old)

-- what is read in the fields of an entry of the catalog: when that applies, and the catalog after it
abbrev pub FilesReadApply : List ℕ → List ℕ → Type 0
FilesReadApply old fields = FilesApply old (number_at 8 fields 0) (number_at 8 fields 8) (removed_read fields) (put_read fields)

abbrev pub catalog_after_read : List ℕ → List ℕ → Catalog
catalog_after_read old fields = catalog_after_files (number_at 8 fields 0) (number_at 8 fields 8) (removed_read fields) (put_read fields) old
