-- Two places, and whether they are the same.
use Rattle.std.proofs.Common.{◌≡◌, ◌≢◌, ℕ, Bool, true, false, refl, ap, ◌∙◌, inl, inr, ◌⊎◌}
use Rattle.std.specs.Prelude.{◌&&◌, ◌==◌}
use Rattle.std.proofs.lemmas.Bool.{eqb-true, eq-eqb}
use Rattle.ex_base.specs.declared.names.Place.{Place}
use Rattle.ex_base.specs.declared.names.PageNo.{PageNo}
use Rattle.ex_base.specs.Places.{same_place}

abbrev place_at : ℕ → ℕ → Place
place_at page slot = record { page = record { 0 = page }; slot = slot }

both_true : (x y : Bool) → (x && y) ≡ true → (x ≡ true) × (y ≡ true)
both_true true y h = (refl, h)
both_true false y h = absurd cc

places_same : (a b : Place) → a.page.0 ≡ b.page.0 → a.slot ≡ b.slot → a ≡ b
places_same a b p s = ap (λ (n : ℕ). place_at n a.slot) p ∙ ap (place_at b.page.0) s

pub same_place_is : (a b : Place) → same_place a b ≡ true → a ≡ b
same_place_is a b is =
    let both = both_true (a.page.0 == b.page.0) (a.slot == b.slot) is in
    places_same a b (eqb-true a.page.0 b.page.0 both.0) (eqb-true a.slot b.slot both.1)

pub at_itself : (a b : Place) → a ≡ b → same_place a b ≡ true
at_itself a b e =
    ap (λ (x : Bool). x && (a.slot == b.slot)) (eq-eqb a.page.0 b.page.0 (ap (λ (p : Place). p.page.0) e)) ∙ eq-eqb a.slot b.slot (ap (λ (p : Place). p.slot) e)

pub at_others : (a b : Place) → a ≢ b → same_place a b ≡ false
at_others a b differ = by_test (same_place a b) refl
  where
    by_test : (x : Bool) → same_place a b ≡ x → same_place a b ≡ false
    by_test true e = absurd (differ (same_place_is a b e))
    by_test false e = e

pub place_or_not : (a b : Place) → (a ≡ b) ⊎ (a ≢ b)
place_or_not a b = by_test (same_place a b) refl
  where
    by_test : (x : Bool) → same_place a b ≡ x → (a ≡ b) ⊎ (a ≢ b)
    by_test true e = inl (same_place_is a b e)
    by_test false e = inr (λ same. absurd (let yes : same_place a b ≡ true = at_itself a b same in cc))
