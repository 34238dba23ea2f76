-- Lists whose items all have a property, and what stands in them.
use Rattle.std.proofs.Common.{◌≡◌, ◌<◌, ℕ, zero, suc, List, [], ◌∷◌, length, get_or, inl, inr, arith}
use Rattle.std.specs.Prelude.{Contains}
use Rattle.std.specs.List.{flat_map}
use Rattle.std.proofs.lemmas.List.Elements.{Contains-append_left, Contains-append_right, Contains-push, Contains-push_cases}
use Rattle.ex_base.proofs.Members.{contains_none}

pub in_first : {A : Type 0} (x : A) (xs : List A) → Contains (x ∷ xs) x
in_first x xs = Contains-append_left (x ∷ []) xs x (Contains-push [] x)

pub in_one : {A : Type 0} (x y : A) → Contains (x ∷ []) y → x ≡ y
in_one x y h = elim (Contains-push_cases [] x y h) [
  | inl none ↦ absurd (contains_none y none)
  | inr same ↦ same
]

-- what stands in the part of one item
pub in_item : {A B : Type 0} (f : A → List B) (xs : List A) (i : ℕ) (d : A) (y : B) → i < length xs → Contains (f (get_or xs i d)) y → Contains (flat_map f xs) y
in_item f [] i d y lt h = absurd (omega arith)
in_item f (x ∷ xs) zero d y lt h = Contains-append_left (f x) (flat_map f xs) y h
in_item f (x ∷ xs) (suc i) d y lt h = Contains-append_right (f x) (flat_map f xs) y (in_item f xs i d y (omega arith) h)
