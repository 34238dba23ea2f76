-- Working images after one of them was changed.
use Rattle.std.proofs.Common.{◌≡◌, ◌≢◌, ℕ, Bool, true, false, cond, not, ◌&&◌, List, [], ◌∷◌, Option, Some, nat_eq, nat_lt, refl, sym, ap, ◌∙◌, arith, inl, eqb-true, eq-eqb, ltb-true}
use Rattle.std.specs.Prelude.{unwrap_or}
use Rattle.std.specs.Map.{lookup}
use Rattle.std.proofs.lemmas.Bool.{lt-ltb, le-ltb, ltb-false}
use Rattle.ex_base.specs.declared.geometry.Geometry.{Geometry}
use Rattle.ex_base.specs.Area.{InPageArea, IsUnit, area_end}
use Rattle.ex_base.proofs.Lists.{lookup_off}
use Rattle.meta_pages.specs.Overlays.{Overlays, image_at, over, committed_image}
use Rattle.meta_pages.specs.Rows.{with_row}
use Rattle.tree_store.specs.Stored.{unit_bytes}
use Rattle.volume_port.specs.Ported.{in_pages, image_over}

module _ {V : Type 0} where
  pub put_here : (page : ℕ) (v : V) (rows : List (ℕ × V)) → lookup (nat_eq page) (with_row page v rows) ≡ Some v
  put_here page v [] = rw (eq-eqb page page refl) refl
  put_here page v (row ∷ rows) = (elim (nat_lt row.0 page) as (λ b. nat_lt row.0 page ≡ b → lookup (nat_eq page) (cond b (row ∷ with_row page v rows) (cond (nat_eq page row.0) ((page, v) ∷ rows) ((page, v) ∷ row ∷ rows))) ≡ Some v) [
    | true ↦ λ t. lookup_off row (with_row page v rows) page (λ same. absurd (omega (arith, same, ltb-true row.0 page t))) ∙ put_here page v rows
    | false ↦ λ t. elim (nat_eq page row.0) as (λ b. lookup (nat_eq page) (cond b ((page, v) ∷ rows) ((page, v) ∷ row ∷ rows)) ≡ Some v) [
      | true ↦ rw (eq-eqb page page refl) refl
      | false ↦ rw (eq-eqb page page refl) refl
    ]
  ]) refl

  pub put_other : (page : ℕ) (v : V) (rows : List (ℕ × V)) (p : ℕ) → page ≢ p → lookup (nat_eq p) (with_row page v rows) ≡ lookup (nat_eq p) rows
  put_other page v [] p differ = lookup_off (page, v) [] p differ
  put_other page v (row ∷ rows) p differ = elim (nat_lt row.0 page) as (λ b. lookup (nat_eq p) (cond b (row ∷ with_row page v rows) (cond (nat_eq page row.0) ((page, v) ∷ rows) ((page, v) ∷ row ∷ rows))) ≡ lookup (nat_eq p) (row ∷ rows)) [
    | true ↦ ap (λ (o : Option V). cond (nat_eq p row.0) (Some row.1) o) (put_other page v rows p differ)
    | false ↦ (elim (nat_eq page row.0) as (λ b. nat_eq page row.0 ≡ b → lookup (nat_eq p) (cond b ((page, v) ∷ rows) ((page, v) ∷ row ∷ rows)) ≡ lookup (nat_eq p) (row ∷ rows)) [
      | true ↦ λ e. lookup_off (page, v) rows p differ ∙ sym (lookup_off row rows p (λ same. differ (eqb-true page row.0 e ∙ same)))
      | false ↦ λ e. lookup_off (page, v) (row ∷ rows) p differ
    ]) refl
  ]

-- ---- which pages have images

pub in_area : (g : Geometry) (page : ℕ) → InPageArea g page → in_pages g page ≡ true
in_area g page area = rw (le-ltb page 257 area.0, lt-ltb page (area_end g) area.1) refl

both_true : (a b : Bool) → (not a && b) ≡ true → (a ≡ false) × (b ≡ true)
both_true true b h = absurd (cc)
both_true false true h = (refl, refl)
both_true false false h = absurd (cc)

area_of : (g : Geometry) (page : ℕ) → in_pages g page ≡ true → InPageArea g page
area_of g page is =
    let both = both_true (nat_lt page 257) (nat_lt page (area_end g)) is in
    (ltb-false page 257 both.0, ltb-true page (area_end g) both.1)

-- ---- the working images

pub image_same : (g h : Geometry) (meta : Overlays) (u v : ℕ → List ℕ) → h ≡ g → v ≡ u → image_over h meta v ≡ image_over g meta u
image_same g h meta u v geometry units = ap (λ k. image_over k meta v) geometry ∙ ap (image_over g meta) units

-- the units of a disk that stayed
pub same_units : (g h : Geometry) (d e : Option (List ℕ)) → h ≡ g → e ≡ d → unit_bytes h e ≡ unit_bytes g d
same_units g h d e geometry disk = ap (λ k. unit_bytes k e) geometry ∙ ap (unit_bytes g) disk

-- where the page's unit stays
pub image_stays : (g h : Geometry) (meta : Overlays) (u v : ℕ → List ℕ) (page : ℕ) → h ≡ g → (IsUnit g page → v page ≡ u page) → image_over h meta v page ≡ image_over g meta u page
image_stays g h meta u v page geometry same = ap (λ k. image_over k meta v page) geometry ∙
    (elim (in_pages g page) as (λ b. in_pages g page ≡ b → cond b (unwrap_or (image_at meta page) (v page)) [] ≡ cond b (unwrap_or (image_at meta page) (u page)) []) [
      | true ↦ λ t. ap (unwrap_or (image_at meta page)) (same (inl (area_of g page t)))
      | false ↦ λ t. refl
    ]) refl

pub image_put : (g : Geometry) (m n : Overlays) (u : ℕ → List ℕ) (page : ℕ) (x : List ℕ) → InPageArea g page → n ≡ record m { working = with_row page (Some x) m.working } → image_over g n u page ≡ x
image_put g m n u page x area is =
    let there = in_area g page area in
    let row : lookup (nat_eq page) n.working ≡ Some (Some x) = ap (λ (o : Overlays). lookup (nat_eq page) o.working) is ∙ put_here page (Some x) m.working in
    ap (λ b. cond b (unwrap_or (image_at n page) (u page)) []) there ∙ ap (λ r. unwrap_or (over r (committed_image n page)) (u page)) row

pub images_put : (g : Geometry) (m n : Overlays) (u : ℕ → List ℕ) (page p : ℕ) (x : Option (List ℕ)) → p ≢ page → n ≡ record m { working = with_row page x m.working } → image_over g n u p ≡ image_over g m u p
images_put g m n u page p x differ is =
    ap (λ o. image_over g o u p) is
    ∙ ap (λ r. cond (in_pages g p) (unwrap_or (over r (committed_image m p)) (u p)) []) (put_other page x m.working p (λ same. differ (sym same)))
