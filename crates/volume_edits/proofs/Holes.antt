-- A volume with a place for one file.
use Rattle.std.proofs.Common.{◌≡◌, ℕ, ◌+◌, List, [], ◌∷◌, ◌++◌, ap, ◌∙◌, arith}
use Rattle.std.specs.Prelude.{map}
use Rattle.std.specs.List.{flat_map, zip}
use Rattle.std.proofs.lemmas.List.{map-append}
use Rattle.std.proofs.lemmas.List.Concat.{flat_map-append}
use Rattle.ex_base.specs.Area.{catalog_no}
use Rattle.ex_base.specs.Ports.{times}
use Rattle.ex_base.proofs.Counts.{times-append}
use Rattle.version_lists.specs.declared.version.Object.{Object}
use Rattle.version_lists.specs.Objects.{objects_formed}
use Rattle.table_model.specs.declared.table.TableFile.{TableFile}
use Rattle.table_model.specs.declared.table.Table.{Table}
use Rattle.slotted_pages.specs.Reads.{page_on}
use Rattle.ex_base.specs.declared.names.Index.{Index}
use Rattle.file_index.specs.Index.{keys_of, pages_of}
use Rattle.object_files.specs.Catalog.{FileEntry, Catalog}
use Rattle.file_bodies.specs.Files.{all_pages}
use Rattle.trees.specs.Trees.{Units}
use Rattle.volume_model.specs.Volume.{Stored, FileContent, Volume, stored_in, pages_of_file, file_pages, roots_in, root_in, versions_stored, file_of, table_of}
use Rattle.volume_edits.proofs.Lists.{Paired, zip_append, flat_around, times_around}

-- what stands around the file: the catalog's numbers, the file's name and number, and the other files with their entries
pub record Hole : Type 0 where
  pub next : ℕ
  pub last : ℕ
  pub name : List ℕ
  pub file_no : ℕ
  pub entries_before : List FileEntry
  pub entries_behind : List FileEntry
  pub files_before : List FileContent
  pub files_behind : List FileContent

abbrev pub entry_with : Hole → Index → FileEntry
entry_with h index = record { name = h.name; level = index.level; root = index.root; file_no = h.file_no }

abbrev pub catalog_with : Hole → Index → Catalog
catalog_with h index = record { next_unique = h.next; last = h.last; entries = h.entries_before ++ (entry_with h index ∷ h.entries_behind) }

-- the file that an index leads to, with these records
abbrev pub file_with : (ℕ → List ℕ) → Index → List Stored → FileContent
file_with image index stored = record {
  numbers = keys_of image index.level index.root;
  index_pages = pages_of image index.level index.root;
  pages = map (λ (n : ℕ). page_on (image n)) (keys_of image index.level index.root);
  stored = stored;
}

abbrev pub files_with : Hole → (ℕ → List ℕ) → Index → List Stored → List FileContent
files_with h image index stored = h.files_before ++ (file_with image index stored ∷ h.files_behind)

abbrev pub filled : Hole → (ℕ → List ℕ) → Index → List Stored → Volume
filled h image index stored = record { catalog = catalog_with h index; files = files_with h image index stored }

-- ---- the parts of it

abbrev pub stored_of_files : List FileContent → List Stored
stored_of_files files = flat_map (λ (file : FileContent). file.stored) files

-- all other records
abbrev pub stored_first : Hole → List Stored
stored_first h = stored_of_files h.files_before

abbrev pub stored_last : Hole → List Stored
stored_last h = stored_of_files h.files_behind

abbrev pub pages_first : Hole → List ℕ
pages_first h = flat_map pages_of_file h.files_before

abbrev pub pages_last : Hole → List ℕ
pages_last h = flat_map pages_of_file h.files_behind

module _ (h : Hole) (image : ℕ → List ℕ) (index : Index) (stored : List Stored) where
  pub stored_filled : stored_in (filled h image index stored) ≡ stored_first h ++ (stored ++ stored_last h)
  stored_filled = flat_map-append (λ (file : FileContent). file.stored) h.files_before (file_with image index stored ∷ h.files_behind)

  pub roots_filled : roots_in (stored_in (filled h image index stored)) ≡ roots_in (stored_first h) ++ (roots_in stored ++ roots_in (stored_last h))
  roots_filled = ap roots_in stored_filled ∙ flat_around (λ (s : Stored). root_in s.body.content) (stored_first h) stored (stored_last h)

  pub pages_filled : file_pages (filled h image index stored) ≡ pages_first h ++ (all_pages image index ++ pages_last h)
  pages_filled = flat_map-append pages_of_file h.files_before (file_with image index stored ∷ h.files_behind)

  pub times_filled : (p : ℕ) → times p (catalog_no ∷ file_pages (filled h image index stored)) ≡ times p (catalog_no ∷ all_pages image index) + (times p (pages_first h) + times p (pages_last h))
  times_filled p =
      omega (arith, times-append p (catalog_no ∷ []) (file_pages (filled h image index stored)), times-append p (catalog_no ∷ []) (all_pages image index), ap (times p) pages_filled, times_around p (pages_first h) (all_pages image index) (pages_last h))

-- ---- its table

-- the table of such a volume
abbrev pub table_with : Units → Hole → List Object → Table
table_with units h objects = record {
  next_unique = h.next;
  last = h.last;
  files = map (file_of units) (zip h.entries_before h.files_before) ++ (record { name = h.name; objects = objects } ∷ map (file_of units) (zip h.entries_behind h.files_behind));
}

pub table_filled : (units : Units) (h : Hole) (image : ℕ → List ℕ) (index : Index) (stored : List Stored) → Paired h.entries_before h.files_before
    → table_of units (filled h image index stored) ≡ table_with units h (objects_formed (versions_stored units stored))
table_filled units h image index stored paired =
    let made : (files : List TableFile) → Table = λ files. record { next_unique = h.next; last = h.last; files = files } in
    ap made (
    ap (map (file_of units)) (zip_append h.entries_before (entry_with h index ∷ h.entries_behind) h.files_before (file_with image index stored ∷ h.files_behind) paired)
    ∙ map-append (file_of units) (zip h.entries_before h.files_before) (zip (entry_with h index ∷ h.entries_behind) (file_with image index stored ∷ h.files_behind))
    )
