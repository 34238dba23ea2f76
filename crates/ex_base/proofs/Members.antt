-- What stands in a list.
use Rattle.std.proofs.Common.{◌≡◌, ◌⊎◌, zero, suc, List, [], ◌∷◌, ◌++◌, refl, sym, subst, arith, inl, inr}
use Rattle.std.specs.Prelude.{Contains}
use Rattle.std.specs.List.{flat_map, AllByRecursion}

-- ---- by its place

pub contains_none : {A : Type 0} (x : A) → Contains [] x → ⊥
contains_none x (k, lt, is) = omega (arith, lt)

pub contains_later : {A : Type 0} (x y : A) (xs : List A) → Contains xs y → Contains (x ∷ xs) y
contains_later x y xs here = (suc here.0, omega (arith, here.1), here.2)

pub contains_cases : {A : Type 0} (x y : A) (xs : List A) → Contains (x ∷ xs) y → (x ≡ y) ⊎ Contains xs y
contains_cases x y xs (zero, lt, is) = inl is
contains_cases x y xs (suc k, lt, is) = inr (k, omega (arith, lt), is)

-- ---- by recursion on the list

abbrev pub In : {A : Type 0} → A → List A → Type 0
In x [] = ⊥
In x (y ∷ ys) = (x ≡ y) ⊎ In x ys

pub in_contains : {A : Type 0} (x : A) (xs : List A) → Contains xs x → In x xs
in_contains x [] (k, lt, e) = absurd (omega arith)
in_contains x (y ∷ ys) (zero, lt, e) = inl (sym e)
in_contains x (y ∷ ys) (suc k, lt, e) = inr (in_contains x ys (k, omega arith, e))

pub contains_in : {A : Type 0} (x : A) (xs : List A) → In x xs → Contains xs x
contains_in x [] h = absurd h
contains_in x (y ∷ ys) (inl e) = (zero, omega arith, sym e)
contains_in x (y ∷ ys) (inr h) = contains_later y x ys (contains_in x ys h)

-- ---- in one of two lists

pub in_either : {A : Type 0} (x : A) (xs ys : List A) → In x (xs ++ ys) → In x xs ⊎ In x ys
in_either x [] ys h = inr h
in_either x (y ∷ xs) ys (inl e) = inl (inl e)
in_either x (y ∷ xs) ys (inr h) = elim (in_either x xs ys h) [ inl k ↦ inl (inr k) | inr k ↦ inr k ]

pub in_left : {A : Type 0} (x : A) (xs ys : List A) → In x xs → In x (xs ++ ys)
in_left x [] ys h = absurd h
in_left x (y ∷ xs) ys (inl e) = inl e
in_left x (y ∷ xs) ys (inr h) = inr (in_left x xs ys h)

pub in_right : {A : Type 0} (x : A) (xs ys : List A) → In x ys → In x (xs ++ ys)
in_right x [] ys h = h
in_right x (y ∷ xs) ys h = inr (in_right x xs ys h)

-- ---- in what is made of one of the items

pub from_flat : {A B : Type 0} (f : A → List B) (y : B) (xs : List A) → In y (flat_map f xs) → (x : A) × In x xs × In y (f x)
from_flat f y [] h = absurd h
from_flat f y (x ∷ xs) h = elim (in_either y (f x) (flat_map f xs) h) [
  | inl k ↦ (x, inl refl, k)
  | inr k ↦ let rest = from_flat f y xs k in (rest.0, inr rest.1, rest.2)
]

pub into_flat : {A B : Type 0} (f : A → List B) (y : B) (x : A) (xs : List A) → In x xs → In y (f x) → In y (flat_map f xs)
into_flat f y x [] h k = absurd h
into_flat f y x (z ∷ xs) (inl e) k = in_left y (f z) (flat_map f xs) (subst (λ w. In y (f w)) e k)
into_flat f y x (z ∷ xs) (inr h) k = in_right y (f z) (flat_map f xs) (into_flat f y x xs h k)

-- ---- what holds of each

pub of_each : {A : Type 0} (P : A → Type 0) (x : A) (xs : List A) → AllByRecursion P xs → In x xs → P x
of_each P x [] each h = absurd h
of_each P x (y ∷ xs) each (inl e) = subst P (sym e) each.0
of_each P x (y ∷ xs) each (inr h) = of_each P x xs each.1 h

pub each_in : {A : Type 0} (P : A → Type 0) (xs : List A) → ((x : A) → In x xs → P x) → AllByRecursion P xs
each_in P [] h = tt
each_in P (x ∷ xs) h = (h x (inl refl), each_in P xs (λ y k. h y (inr k)))
