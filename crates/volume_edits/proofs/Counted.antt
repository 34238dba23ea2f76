-- The pages of a volume are just the logged pages that the working state has, each once.
use Rattle.std.proofs.Common.{◌≡◌, ℕ, ◌<◌, ◌≤◌, Bool, true, List, [], ◌∷◌, refl, sym, ap, subst, ◌∙◌, arith, inl, inr, ltb}
use Rattle.std.proofs.lemmas.Bool.{cases_Bool, lt-ltb}
use Rattle.std.specs.Prelude.{Contains, ◌↔◌}
use Rattle.std.specs.List.{flat_map, AllByRecursion, AllZip}
use Rattle.ex_base.specs.declared.ground.Ground as ground
use Rattle.ex_base.specs.declared.geometry.Geometry.{Geometry}
use Rattle.ex_base.specs.Area.{catalog_no, area_end}
use Rattle.ex_base.specs.Order.{AllDiffer}
use Rattle.ex_base.specs.Ports.{times}
use Rattle.op_log.specs.declared.record.LogRecord.{LogRecord}
use Rattle.ex_base.proofs.Rows.{each-append}
use Rattle.ex_base.proofs.Counts.{differ_once, none_or_some, once_differ, times_apart, times_here, same_or_not}
use Rattle.ex_base.proofs.Members.{contains_in, in_contains}
use Rattle.file_index.specs.Changes.{count_of}
use Rattle.file_index.specs.Index.{IsFilesPage}
use Rattle.file_index.proofs.Counts.{count_most, count_is, is_counted}
use Rattle.file_index.proofs.Heights.{keys_of_pages, index_of_pages}
use Rattle.object_files.specs.Catalog.{FileEntry}
use Rattle.trees.specs.Trees.{Units}
use Rattle.volume_model.specs.Parts.{HasIndex}
use Rattle.volume_model.specs.Volume.{FileContent, Volume, pages_of_file, file_pages}
use Rattle.volume_edits.specs.Ported.{ShowsVolume, units_in}
use Rattle.volume_edits.proofs.Lists.{in_times, times_in}

-- ---- the pages of a file

pub file_lies : (g : Geometry) (units : Units) (entry : FileEntry) (file : FileContent) → HasIndex g units entry file → AllByRecursion (IsFilesPage g) (pages_of_file file)
file_lies g units entry file h = each-append (IsFilesPage g) file.numbers file.index_pages
    (subst (AllByRecursion (IsFilesPage g)) (sym h.numbers) (keys_of_pages g entry.file_no units entry.level entry.root h.whole))
    (subst (AllByRecursion (IsFilesPage g)) (sym h.index_pages) (index_of_pages g entry.file_no units entry.level entry.root h.whole))

pub files_lie : (g : Geometry) (units : Units) (entries : List FileEntry) (files : List FileContent) → AllZip (HasIndex g units) entries files → AllByRecursion (IsFilesPage g) (flat_map pages_of_file files)
files_lie g units [] [] h = tt
files_lie g units [] (f ∷ files) h = absurd h
files_lie g units (e ∷ entries) [] h = absurd h
files_lie g units (e ∷ entries) (f ∷ files) h = each-append (IsFilesPage g) (pages_of_file f) (flat_map pages_of_file files) (file_lies g units e f h.0) (files_lie g units entries files h.1)

pub no_catalog : (g : Geometry) (xs : List ℕ) → AllByRecursion (IsFilesPage g) xs → times catalog_no xs ≡ 0
no_catalog g [] h = refl
no_catalog g (x ∷ xs) h = omega (arith, times_apart catalog_no x xs (λ same. h.0.1 (sym same)), no_catalog g xs h.1)

-- ---- counts

pub counted_from : (n : ℕ) (b : Bool) → n ≤ 1 → (b ≡ true → 1 ≤ n) → (1 ≤ n → b ≡ true) → n ≡ count_of b
counted_from n b most some held = elim (cases_Bool b) [
  | inl t ↦ omega (arith, count_is b t, some t, most)
  | inr f ↦ elim (none_or_some n) [
    | inl z ↦ (rw f z)
    | inr s ↦ absurd (let t = held s in cc)
  ]
]

pub times_once : (p : ℕ) (xs : List ℕ) → times p xs ≤ 1 → times catalog_no xs ≡ 0 → times p (catalog_no ∷ xs) ≤ 1
times_once p xs once none = elim (same_or_not p catalog_no) [
  | inl same ↦ (let here = times_here p catalog_no xs same in let zero_here : times p xs ≡ 0 = ap (λ q. times q xs) same ∙ none in omega (arith, here, zero_here))
  | inr differ ↦ omega (arith, times_apart p catalog_no xs differ, once)
]

abbrev pub Counted : {S : Type 0} → ground.Ghosts S → S → List ℕ → Type 0
Counted g s pages = (p : ℕ) → times p pages ≡ count_of (g.held s p)

module _ {S : Type 0} (g : ground.Ghosts S) where
  pub pages_counted : (s : S) (records : List LogRecord) (v : Volume) → ShowsVolume g s records v → Counted g s (catalog_no ∷ file_pages v)
  pages_counted s records v is p =
      let lies = files_lie (g.geometry s) (units_in g s) v.catalog.entries v.files is.parts.1.0.0 in
      let once = times_once p (file_pages v) (differ_once (file_pages v) is.parts.1.0.1 p) (no_catalog (g.geometry s) (file_pages v) lies) in
      counted_from (times p (catalog_no ∷ file_pages v)) (g.held s p) once
      (λ t. in_times p (catalog_no ∷ file_pages v) (in_contains p (catalog_no ∷ file_pages v) ((is.held p).0 t)))
      (λ some. (is.held p).1 (contains_in p (catalog_no ∷ file_pages v) (times_in p (catalog_no ∷ file_pages v) some)))

  pub held_of : (s : S) (pages : List ℕ) → Counted g s pages → (p : ℕ) → (g.held s p ≡ true) ↔ Contains pages p
  held_of s pages counted p = (
    (λ t. contains_in p pages (times_in p pages (omega (arith, counted p, count_is (g.held s p) t)))),
    (λ c. is_counted (g.held s p) (omega (arith, counted p, in_times p pages (in_contains p pages c)))),
  )

  pub differ_of : (s : S) (page : ℕ) (pages : List ℕ) → Counted g s (page ∷ pages) → AllDiffer pages
  differ_of s page pages counted = once_differ pages (λ n. omega (arith, counted n, count_most (g.held s n)))

  -- ---- what a unit's bytes are

  pub in_area : (s : S) (page : ℕ) → page < area_end (g.geometry s) → units_in g s page ≡ g.image s page
  in_area s page lt = let t : ltb page (area_end (g.geometry s)) ≡ true = search (arith, lt-ltb page (area_end (g.geometry s)) lt) in rw t refl
