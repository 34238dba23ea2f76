-- How often a number stands in a list, and lists whose numbers differ.
use Rattle.std.proofs.Common.{◌≡◌, ◌≢◌, ◌≤◌, ℕ, List, [], ◌∷◌, refl, sym, subst, arith, inl, inr}
use Rattle.std.specs.Prelude.{Contains}
use Rattle.std.specs.List.{AllByRecursion}
use Rattle.ex_base.specs.Ports.{times}
use Rattle.ex_base.proofs.Counts.{none_or_some, times_apart, times_contains}

-- ---- numbers differ exactly where none stands twice

absent : (x y : ℕ) (xs : List ℕ) → x ≡ y → ¬ Contains xs y → times x xs ≤ 0
absent x y xs same lacks = elim (none_or_some (times x xs)) [
  | inl none ↦ omega (arith, none)
  | inr some ↦ absurd (lacks (subst (Contains xs) same (times_contains x xs some)))
]

-- a number that each item isn't stands nowhere
pub never : (x : ℕ) (xs : List ℕ) → AllByRecursion (λ (y : ℕ). y ≢ x) xs → times x xs ≡ 0
never x [] h = refl
never x (y ∷ xs) h = omega (arith, times_apart x y xs (λ same. h.0 (sym same)), never x xs h.1)
