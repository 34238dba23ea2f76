-- The bytes of the units of a port over parts of a volume are those of the working units, and a page without an image has none.
use Rattle.std.proofs.Common.{◌≡◌, ◌∙◌, ℕ, ◌≤◌, true, false, cond, ltb, List, [], ◌∷◌, Option, Some, None, nat_eq, refl, sym, ap, subst, arith, inl, inr, eqb-true}
use Rattle.std.specs.Prelude.{Contains, unwrap_or}
use Rattle.std.specs.List.{AllByRecursion}
use Rattle.std.specs.Map.{lookup}
use Rattle.std.proofs.lemmas.Bool.{cases_Bool, cond-false, cond-true, ltb-true}
use Rattle.ex_base.specs.declared.geometry.Geometry.{Geometry}
use Rattle.ex_base.specs.Area.{InPageArea, catalog_no, area_end, page_at, leaf_at}
use Rattle.op_log.specs.AfterLog.{logged, after_log}
use Rattle.meta_pages.specs.Overlays.{Overlays, image_at, over}
use Rattle.trees.specs.Trees.{Units}
use Rattle.tree_store.specs.Stored.{unit_bytes}
use Rattle.volume_model.specs.Shown.{PageRow, laid_over, working_units}
use Rattle.volume_model.specs.Volume.{Decoded}
use Rattle.volume_port.specs.Ported.{image_over, in_pages}
use Rattle.volume_port.proofs.HeldCatalog.{laid_over_log}
use Rattle.volume_port.proofs.WorkingRows.{in_area}

-- ---- a unit's bytes

pub page_bytes : (g : Geometry) (disk : List ℕ) (u : ℕ) → ltb u (area_end g) ≡ true → unit_bytes g (Some disk) u ≡ page_at g disk u
page_bytes g disk u lt = rw lt refl

pub leaf_bytes_at : (g : Geometry) (disk : List ℕ) (u : ℕ) → ltb u (area_end g) ≡ false → unit_bytes g (Some disk) u ≡ leaf_at g disk u
leaf_bytes_at g disk u lt = rw lt refl

pub image_is : (g : Geometry) (meta : Overlays) (unit : ℕ → List ℕ) (u : ℕ) → InPageArea g u → image_over g meta unit u ≡ unwrap_or (image_at meta u) (unit u)
image_is g meta unit u area = cond-true (in_pages g u) (unwrap_or (image_at meta u) (unit u)) [] (in_area g u area)

-- the units of a port, over what it has
abbrev pub units_over : Geometry → (ℕ → List ℕ) → (ℕ → List ℕ) → Units
units_over g image unit u = cond (ltb u (area_end g)) (image u) (unit u)

module _ (d : Decoded) (disk : List ℕ) (meta : Overlays) (just : (page : ℕ) → lookup (nat_eq page) meta.committed ≡ logged d.records page) where
  abbrev W : Units
  W = working_units d disk meta.working

  same_page : (u : ℕ) → catalog_no ≤ u → ltb u (area_end d.geometry) ≡ true → image_over d.geometry meta (unit_bytes d.geometry (Some disk)) u ≡ W u
  same_page u from lt =
      let home = page_at d.geometry disk u in
      image_is d.geometry meta (unit_bytes d.geometry (Some disk)) u (from, ltb-true u (area_end d.geometry) lt)
      ∙ ap (λ (bytes : List ℕ). unwrap_or (image_at meta u) bytes) (page_bytes d.geometry disk u lt)
      ∙ ap (λ (image : Option (List ℕ)). unwrap_or (over (lookup (nat_eq u) meta.working) image) home) (just u)
      ∙ sym (laid_over_log (lookup (nat_eq u) meta.working) (logged d.records u) home)
      ∙ sym (cond-true (ltb u (area_end d.geometry)) (laid_over d.geometry disk (after_log d.geometry d.records disk) meta.working u) (leaf_at d.geometry disk u) lt)

  pub same_unit : (u : ℕ) → catalog_no ≤ u → units_over d.geometry (image_over d.geometry meta (unit_bytes d.geometry (Some disk))) (unit_bytes d.geometry (Some disk)) u ≡ W u
  same_unit u from = elim (cases_Bool (ltb u (area_end d.geometry))) [
    | inl lt ↦ cond-true (ltb u (area_end d.geometry)) (image_over d.geometry meta (unit_bytes d.geometry (Some disk)) u) (unit_bytes d.geometry (Some disk) u) lt ∙ same_page u from lt
    | inr ge ↦
        cond-false (ltb u (area_end d.geometry)) (image_over d.geometry meta (unit_bytes d.geometry (Some disk)) u) (unit_bytes d.geometry (Some disk) u) ge
        ∙ leaf_bytes_at d.geometry disk u ge
        ∙ sym (cond-false (ltb u (area_end d.geometry)) (laid_over d.geometry disk (after_log d.geometry d.records disk) meta.working u) (leaf_at d.geometry disk u) ge)
  ]

-- ---- a page that is not held has no image

pub contains_here : {A : Type 0} (x : A) (xs : List A) (y : A) → y ≡ x → Contains (x ∷ xs) y
contains_here x xs y same = (0, omega arith, sym same)

pub found_row : (P : ℕ → Type 0) (rows : List PageRow) (page : ℕ) (image : List ℕ) → AllByRecursion (λ (row : PageRow). P row.0) rows → lookup (nat_eq page) rows ≡ Some image → P page
found_row P [] page image each is = absurd (cc)
found_row P (row ∷ rows) page image each is = (elim (nat_eq page row.0) as (λ b. nat_eq page row.0 ≡ b → cond b (Some row.1) (lookup (nat_eq page) rows) ≡ Some image → P page) [
  | true ↦ λ same _. subst P (sym (eqb-true page row.0 same)) each.0
  | false ↦ λ _ later. found_row P rows page image each.1 later
]) refl is

pub no_image : (row : Option (Option (List ℕ))) (logged : Option (List ℕ)) → ((image : List ℕ) → row ≡ Some (Some image) → ⊥) → ((image : List ℕ) → logged ≡ Some image → row ≡ Some None) → over row logged ≡ None
no_image None None never away = refl
no_image None (Some image) never away = absurd (let gone = away image refl in cc)
no_image (Some None) logged never away = refl
no_image (Some (Some image)) logged never away = absurd (never image refl)
