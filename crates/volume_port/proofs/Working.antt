-- The working pages and the working catalog after an edit.
use Rattle.std.proofs.Common.{◌≡◌, ◌≢◌, ◌∙◌, ⊎_elim, ltb, ℕ, ◌<◌, true, false, cond, List, [], ◌∷◌, map, Option, Some, None, nat_eq, nat_lt, refl, sym, ap, subst, inl, inr, arith, ltb-true, eqb-true}
use Rattle.std.specs.Prelude.{Contains}
use Rattle.std.specs.List.{AllByRecursion}
use Rattle.std.specs.Map.{lookup}
use Rattle.ex_base.specs.Area.{catalog_no}
use Rattle.ex_base.specs.Order.{Rising}
use Rattle.ex_base.proofs.Counts.{not_equal}
use Rattle.meta_pages.specs.Rows.{with_row}
use Rattle.meta_pages.proofs.RowLists.{All-with_row, not_equal_above}
use Rattle.op_log.specs.AfterLog.{after_log}
use Rattle.session_views.specs.View.{View}
use Rattle.volume_model.specs.Shown.{Held, WorkingRow, IsWorkingPage, laid_over, laid_over_page, working_units}
use Rattle.volume_model.specs.Volume.{Volume, Decoded, file_pages, units_of}
use Rattle.ex_base.specs.Area.{area_end, page_at, leaf_at}
use Rattle.volume_model.proofs.KeptOff.{SameOff}
use Rattle.volume_port.proofs.Frames.{all_of_each, each_of_all}
use Rattle.volume_port.proofs.WorkingRows.{put_other}
pub use Rattle.volume_port.proofs.WorkingRows.{put_here as lookup_put}
pub use Rattle.meta_pages.proofs.RowLists.{length-with_row as length_put}
use Rattle.std.proofs.lemmas.Bool.{cases_eq}
use Rattle.volume_model.proofs.Showing.{page_unit}

-- ---- rows

abbrev first_of_row : WorkingRow → ℕ
first_of_row row = row.0

unlike : (page k : ℕ) → k < page → nat_eq page k ≡ false
unlike page k lt = not_equal page k (λ same. absurd (omega (arith, lt, same)))

unlike_above : (page k : ℕ) → page < k → nat_eq page k ≡ false
unlike_above page k lt = not_equal page k (λ same. absurd (omega (arith, lt, same)))

absent_above : (page low : ℕ) (rows : List WorkingRow) → page < low → Rising (low ∷ map first_of_row rows) → lookup (nat_eq page) rows ≡ None
absent_above page low [] lt rising = refl
absent_above page low (row ∷ rows) lt rising = rw (unlike_above page row.0 (omega (arith, lt, rising.0))) (absent_above page row.0 rows (omega (arith, lt, rising.0)) rising.1)

rising_tail : (low : ℕ) (rows : List WorkingRow) → Rising (low ∷ map first_of_row rows) → Rising (map first_of_row rows)
rising_tail low [] rising = tt
rising_tail low (row ∷ rows) rising = rising.1

pub firsts_put : (page : ℕ) (v x : Option (List ℕ)) (rows : List WorkingRow) → Rising (map first_of_row rows) → lookup (nat_eq page) rows ≡ Some x → map first_of_row (with_row page v rows) ≡ map first_of_row rows
firsts_put page v x [] rising there = absurd (cc)
firsts_put page v x (row ∷ rows) rising there = (elim (nat_lt row.0 page) as (λ b. nat_lt row.0 page ≡ b
    → map first_of_row (cond b (row ∷ with_row page v rows) (cond (nat_eq page row.0) ((page, v) ∷ rows) ((page, v) ∷ row ∷ rows))) ≡ row.0 ∷ map first_of_row rows) [
      | true ↦ λ is.
          let behind : lookup (nat_eq page) rows ≡ Some x = rw (unlike page row.0 (ltb-true row.0 page is)) at there in
          ap (λ (l : List ℕ). row.0 ∷ l) (firsts_put page v x rows (rising_tail row.0 rows rising) behind)
      | false ↦ λ low. (elim (nat_eq page row.0) as (λ b. nat_eq page row.0 ≡ b → cond b (Some row.1) (lookup (nat_eq page) rows) ≡ Some x → map first_of_row (cond b ((page, v) ∷ rows) ((page, v) ∷ row ∷ rows)) ≡ row.0 ∷ map first_of_row rows) [
        | true ↦ λ is _. ap (λ (k : ℕ). k ∷ map first_of_row rows) (eqb-true page row.0 is)
        | false ↦ λ isnt found. let none = absent_above page row.0 rows (not_equal_above page row.0 low isnt) rising in absurd (cc)
      ]) refl there
    ]) refl

pub each_put : (P : WorkingRow → Type 0) (page : ℕ) (v : Option (List ℕ)) (rows : List WorkingRow) → P (page, v) → AllByRecursion P rows → AllByRecursion P (with_row page v rows)
each_put P page v rows here each = each_of_all P (with_row page v rows) (All-with_row page P v rows here (all_of_each P rows each))

-- the images stay those of the files, where these have the pages that they had
pub images_of_files : (working new : Volume) (rows : List WorkingRow) → file_pages new ≡ file_pages working → AllByRecursion (IsWorkingPage working) rows → AllByRecursion (IsWorkingPage new) rows
images_of_files working new [] same images = tt
images_of_files working new (row ∷ rows) same images =
    (λ some. elim (images.0 some) [ inl is ↦ inl is | inr has ↦ inr (subst (λ (pages : List ℕ). Contains pages row.0) (sym same) has) ], images_of_files working new rows same images.1)

-- ---- the working volume

pub working_image : (d : Decoded) (v : View Held) (image : List ℕ) → lookup (nat_eq catalog_no) v.session.working_pages ≡ Some (Some image) → working_units d v.disk v.session.working_pages catalog_no ≡ image
working_image d v image there =
    let pages = after_log d.geometry d.records v.disk in
    page_unit d.geometry (laid_over d.geometry v.disk pages v.session.working_pages) (leaf_at d.geometry v.disk catalog_no)
    ∙ ap (λ (row : Option (Option (List ℕ))). laid_over_page (pages catalog_no) (page_at d.geometry v.disk catalog_no) row) there

-- other working pages with another catalog: each other unit is as it was
pub same_off : (d : Decoded) (disk image : List ℕ) (rows : List WorkingRow) → SameOff (working_units d disk rows) (working_units d disk (with_row catalog_no (Some image) rows))
same_off d disk image rows = λ u differ.
    ap (λ (row : Option (Option (List ℕ))). cond (ltb u (area_end d.geometry)) (laid_over_page (after_log d.geometry d.records disk u) (page_at d.geometry disk u) row) (leaf_at d.geometry disk u))
    (put_other catalog_no (Some image) rows u (λ e. differ (sym e)))

-- the catalog's own image over pages that are not touched changes no unit
pub begun_units : (d : Decoded) (disk image : List ℕ) → image ≡ units_of d disk catalog_no → (u : ℕ) → working_units d disk ((catalog_no, Some image) ∷ []) u ≡ units_of d disk u
begun_units d disk image is u = ⊎_elim
    (λ (same : u ≡ catalog_no). subst (λ (p : ℕ). working_units d disk ((catalog_no, Some image) ∷ []) p ≡ units_of d disk p) (sym same) (here ∙ is))
    (λ (differ : u ≢ catalog_no). same_off d disk image [] u differ) (cases_eq u catalog_no)
  where
    here : working_units d disk ((catalog_no, Some image) ∷ []) catalog_no ≡ image
    here = page_unit d.geometry (laid_over d.geometry disk (after_log d.geometry d.records disk) ((catalog_no, Some image) ∷ [])) (leaf_at d.geometry disk catalog_no)
