-- The files of a volume with one without pages more or less.
use Rattle.std.proofs.Common.{◌≡◌, ℕ, true, false, cond, not, List, [], ◌∷◌, ◌++◌, None, refl, sym, ap, ◌∙◌, arith}
use Rattle.std.specs.Prelude.{map, filter, if◌then◌else◌}
use Rattle.std.specs.List.{flat_map, AllByRecursion, AllZip, zip}
use Rattle.std.specs.Cmp.Lexicographic.{slice_cmp}
use Rattle.std.specs.Ordering.{nat_cmp, is_lt}
use Rattle.ex_base.specs.declared.geometry.Geometry.{Geometry}
use Rattle.file_index.specs.Index.{keys_of, pages_of}
use Rattle.object_files.specs.Catalog.{FileEntry}
use Rattle.object_files.specs.Edits.{new_file, has_name, entry_inserted, without_name}
use Rattle.slotted_pages.specs.FilePage.{FilePage}
use Rattle.trees.specs.Trees.{Units}
use Rattle.table_model.specs.declared.table.TableFile.{TableFile}
use Rattle.table_model.specs.Tables.{file_inserted}
use Rattle.table_model.specs.Tables as tables
use Rattle.volume_model.specs.Parts.{HasBodies, HasIndex, HasPages, IsStored, bodies_from}
use Rattle.volume_model.specs.Volume.{Stored, FileContent, pages_of_file, file_of}

-- ---- a file more

-- a file without pages
abbrev pub no_pages : FileContent
no_pages = record { numbers = []; index_pages = []; pages = []; stored = [] }

-- the files with one more, in the place of its entry
abbrev pub file_added : FileEntry → List FileEntry → List FileContent → List FileContent
file_added e [] files = no_pages ∷ files
file_added e (f ∷ entries) [] = no_pages ∷ []
file_added e (f ∷ entries) (c ∷ files) = if is_lt (slice_cmp nat_cmp e.name f.name) then no_pages ∷ c ∷ files else c ∷ file_added e entries files

pub zip_added : (R : FileEntry → FileContent → Type 0) (e : FileEntry) (entries : List FileEntry) (files : List FileContent) → R e no_pages → AllZip R entries files → AllZip R (entry_inserted e entries) (file_added e entries files)
zip_added R e [] [] new h = (new, tt)
zip_added R e [] (c ∷ files) new h = absurd h
zip_added R e (f ∷ entries) [] new h = absurd h
zip_added R e (f ∷ entries) (c ∷ files) new h =
    (elim (is_lt (slice_cmp nat_cmp e.name f.name)) as (λ t. AllZip R (if t then e ∷ f ∷ entries else f ∷ entry_inserted e entries) (if t then no_pages ∷ c ∷ files else c ∷ file_added e entries files)) [
      | true ↦ (new, h)
      | false ↦ (h.0, zip_added R e entries files new h.1)
    ])

pub each_added : (P : FileContent → Type 0) (e : FileEntry) (entries : List FileEntry) (files : List FileContent) → P no_pages → AllByRecursion P files → AllByRecursion P (file_added e entries files)
each_added P e [] files new h = (new, h)
each_added P e (f ∷ entries) [] new h = (new, tt)
each_added P e (f ∷ entries) (c ∷ files) new h =
    (elim (is_lt (slice_cmp nat_cmp e.name f.name)) as (λ t. AllByRecursion P (if t then no_pages ∷ c ∷ files else c ∷ file_added e entries files)) [
      | true ↦ (new, h)
      | false ↦ (h.0, each_added P e entries files new h.1)
    ])

pub flat_added : {A : Type 0} (f : FileContent → List A) (e : FileEntry) (entries : List FileEntry) (files : List FileContent) → f no_pages ≡ [] → flat_map f (file_added e entries files) ≡ flat_map f files
flat_added {A = A} f e [] files none = ap (λ (t : List A). t ++ flat_map f files) none
flat_added {A = A} f e (d ∷ entries) [] none = ap (λ (t : List A). t ++ []) none
flat_added {A = A} f e (d ∷ entries) (c ∷ files) none =
    (elim (is_lt (slice_cmp nat_cmp e.name d.name)) as (λ t. flat_map f (if t then no_pages ∷ c ∷ files else c ∷ file_added e entries files) ≡ flat_map f (c ∷ files)) [
      | true ↦ ap (λ (t : List A). t ++ flat_map f (c ∷ files)) none
      | false ↦ ap (λ (t : List A). f c ++ t) (flat_added f e entries files none)
    ])

pub table_added : (units : Units) (name : List ℕ) (file_no : ℕ) (entries : List FileEntry) (files : List FileContent) → AllZip (λ (e : FileEntry) (f : FileContent). Unit {0}) entries files
    → map (file_of units) (zip (entry_inserted (new_file name file_no) entries) (file_added (new_file name file_no) entries files)) ≡ file_inserted (record { name = name; objects = [] }) (map (file_of units) (zip entries files))
table_added units name file_no [] [] paired = refl
table_added units name file_no [] (c ∷ files) paired = absurd paired
table_added units name file_no (f ∷ entries) [] paired = absurd paired
table_added units name file_no (f ∷ entries) (c ∷ files) paired =
    (elim (is_lt (slice_cmp nat_cmp name f.name)) as (λ t. map (file_of units) (zip (if t then new_file name file_no ∷ f ∷ entries else f ∷ entry_inserted (new_file name file_no) entries) (if t then no_pages ∷ c ∷ files else c ∷ file_added (new_file name file_no) entries files))
    ≡ (if t then record { name = name; objects = [] } ∷ map (file_of units) (zip (f ∷ entries) (c ∷ files)) else file_of units (f, c) ∷ file_inserted (record { name = name; objects = [] }) (map (file_of units) (zip entries files)))) [
      | true ↦ refl
      | false ↦ ap (λ (t : List TableFile). file_of units (f, c) ∷ t) (table_added units name file_no entries files paired.1)
    ])

pub no_bodies : HasBodies no_pages
no_bodies = record { records = tt; linked = tt }

pub no_index : (g : Geometry) (units : Units) (name : List ℕ) (file_no : ℕ) → HasIndex g units (new_file name file_no) no_pages
no_index g units name file_no = record { whole = record { whole = refl; rising = tt; once = λ p. omega arith }; numbers = refl; index_pages = refl }

-- ---- a file less

abbrev pub file_left : List ℕ → List FileEntry → List FileContent → List FileContent
file_left name [] files = []
file_left name (e ∷ entries) [] = []
file_left name (e ∷ entries) (c ∷ files) = cond (not (has_name name e)) (c ∷ file_left name entries files) (file_left name entries files)

pub zip_left : (R : FileEntry → FileContent → Type 0) (name : List ℕ) (entries : List FileEntry) (files : List FileContent) → AllZip R entries files → AllZip R (without_name name entries) (file_left name entries files)
zip_left R name [] [] h = tt
zip_left R name [] (c ∷ files) h = absurd h
zip_left R name (e ∷ entries) [] h = absurd h
zip_left R name (e ∷ entries) (c ∷ files) h =
    (elim (has_name name e) as (λ t. AllZip R (cond (not t) (e ∷ without_name name entries) (without_name name entries)) (cond (not t) (c ∷ file_left name entries files) (file_left name entries files))) [
      | true ↦ zip_left R name entries files h.1
      | false ↦ (h.0, zip_left R name entries files h.1)
    ])

pub each_left : (P : FileContent → Type 0) (name : List ℕ) (entries : List FileEntry) (files : List FileContent) → AllByRecursion P files → AllByRecursion P (file_left name entries files)
each_left P name [] files h = tt
each_left P name (e ∷ entries) [] h = tt
each_left P name (e ∷ entries) (c ∷ files) h =
    (elim (has_name name e) as (λ t. AllByRecursion P (cond (not t) (c ∷ file_left name entries files) (file_left name entries files))) [
      | true ↦ each_left P name entries files h.1
      | false ↦ (h.0, each_left P name entries files h.1)
    ])

-- the file with the name has nothing of this
abbrev pub HasNone : {A : Type 0} → (FileContent → List A) → List ℕ → FileEntry → FileContent → Type 0
HasNone f name e c = has_name name e ≡ true → f c ≡ []

pub flat_left : {A : Type 0} (f : FileContent → List A) (name : List ℕ) (entries : List FileEntry) (files : List FileContent) → AllZip (HasNone f name) entries files → flat_map f (file_left name entries files) ≡ flat_map f files
flat_left f name [] [] h = refl
flat_left f name [] (c ∷ files) h = absurd h
flat_left f name (e ∷ entries) [] h = absurd h
flat_left {A = A} f name (e ∷ entries) (c ∷ files) h =
    (elim (has_name name e) as (λ t. has_name name e ≡ t → flat_map f (cond (not t) (c ∷ file_left name entries files) (file_left name entries files)) ≡ flat_map f (c ∷ files)) [
      | true ↦ λ is. flat_left f name entries files h.1 ∙ ap (λ (t : List A). t ++ flat_map f files) (sym (h.0 is))
      | false ↦ λ is. ap (λ (t : List A). f c ++ t) (flat_left f name entries files h.1)
    ]) refl

pub table_left : (units : Units) (name : List ℕ) (entries : List FileEntry) (files : List FileContent) → AllZip (λ (e : FileEntry) (f : FileContent). Unit {0}) entries files
    → map (file_of units) (zip (without_name name entries) (file_left name entries files)) ≡ filter (λ (f : TableFile). not (tables.has_name name f)) (map (file_of units) (zip entries files))
table_left units name [] [] paired = refl
table_left units name [] (c ∷ files) paired = absurd paired
table_left units name (e ∷ entries) [] paired = absurd paired
table_left units name (e ∷ entries) (c ∷ files) paired =
    (elim (has_name name e) as (λ t. map (file_of units) (zip (cond (not t) (e ∷ without_name name entries) (without_name name entries)) (cond (not t) (c ∷ file_left name entries files) (file_left name entries files)))
    ≡ cond (not t) (file_of units (e, c) ∷ filter (λ (f : TableFile). not (tables.has_name name f)) (map (file_of units) (zip entries files))) (filter (λ (f : TableFile). not (tables.has_name name f)) (map (file_of units) (zip entries files)))) [
      | true ↦ table_left units name entries files paired.1
      | false ↦ ap (λ (t : List TableFile). file_of units (e, c) ∷ t) (table_left units name entries files paired.1)
    ])

-- a file without pages has no records
pub no_stored : (numbers : List ℕ) (pages : List FilePage) (stored : List Stored) → numbers ≡ [] → AllZip IsStored (flat_map (λ (row : ℕ × FilePage). bodies_from row.0 0 row.1.slots) (zip numbers pages)) stored → stored ≡ []
no_stored [] pages [] none h = refl
no_stored [] pages (s ∷ stored) none h = absurd h
no_stored (n ∷ numbers) pages stored none h = absurd (let e : n ∷ numbers ≡ [] = none in cc)

-- a file without a root has no pages and no records
pub record IsBare (c : FileContent) : Type 0 where
  pub pages : pages_of_file c ≡ []
  pub stored : c.stored ≡ []

pub bare : (g : Geometry) (units : Units) (e : FileEntry) (c : FileContent) → e.root ≡ None → HasIndex g units e c → HasPages units e c → HasBodies c → IsBare c
bare g units e c rootless index pages bodies =
    let numbers : c.numbers ≡ [] = index.numbers ∙ ap (keys_of units e.level) rootless in
    let index_pages : c.index_pages ≡ [] = index.index_pages ∙ ap (pages_of units e.level) rootless in
    record {
      pages = cc (numbers, index_pages);
      stored = no_stored c.numbers c.pages c.stored numbers bodies.records;
    }
