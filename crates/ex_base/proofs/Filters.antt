-- Which elements of a list pass a test.
use Rattle.std.proofs.Common.{◌≡◌, ℕ, suc, ◌≤◌, inl, inr, Bool, true, false, List, [], ◌∷◌, ◌++◌, length, filter, refl, sym, ap, subst, ◌∙◌, arith, Some, zero, slice_get}
use Rattle.std.specs.Prelude.{◌||◌, if◌then◌else◌}
use Rattle.std.specs.List.{list_any, AllByRecursion}
use Rattle.ex_base.specs.Order.{AllDiffer}
use Rattle.ex_base.proofs.Members.{In, in_contains, contains_in}

-- what holds of each
pub each_kept : {A : Type 0} (P : A → Type 0) (p : A → Bool) (xs : List A) → AllByRecursion P xs → AllByRecursion P (filter p xs)
each_kept P p [] each = tt
each_kept P p (x ∷ xs) each = by_test (each_kept P p xs each.1) (p x)
  where
    by_test : AllByRecursion P (filter p xs) → (b : Bool) → AllByRecursion P (if b then x ∷ filter p xs else filter p xs)
    by_test rest true = (each.0, rest)
    by_test rest false = rest

pub few_kept : {A : Type 0} (p : A → Bool) (xs : List A) → length (filter p xs) ≤ length xs
few_kept p [] = omega arith
few_kept p (x ∷ xs) = by_test (few_kept p xs) (p x)
  where
    by_test : length (filter p xs) ≤ length xs → (b : Bool) → length (if b then x ∷ filter p xs else filter p xs) ≤ suc (length xs)
    by_test rest true = omega (arith, rest)
    by_test rest false = omega (arith, rest)

-- ---- what stands in the list

pub in_kept : {A : Type 0} (p : A → Bool) (xs : List A) (x : A) → In x (filter p xs) → In x xs × (p x ≡ true)
in_kept p [] x h = absurd h
in_kept p (y ∷ xs) x h = by_test (λ later. in_kept p xs x later) (p y) refl h
  where
    by_test : (In x (filter p xs) → In x xs × (p x ≡ true)) → (b : Bool) → p y ≡ b → In x (if b then y ∷ filter p xs else filter p xs) → In x (y ∷ xs) × (p x ≡ true)
    by_test go true is (inl same) = (inl same, ap p same ∙ is)
    by_test go true is (inr later) = let rest = go later in (inr rest.0, rest.1)
    by_test go false is later = let rest = go later in (inr rest.0, rest.1)

pub kept_in : {A : Type 0} (p : A → Bool) (xs : List A) (x : A) → In x xs → p x ≡ true → In x (filter p xs)
kept_in p [] x h passes = absurd h
kept_in p (y ∷ xs) x (inl same) passes = subst (λ (b : Bool). In x (if b then y ∷ filter p xs else filter p xs)) (sym passes ∙ ap p same) (inl same)
kept_in p (y ∷ xs) x (inr later) passes = by_test (kept_in p xs x later passes) (p y)
  where
    by_test : In x (filter p xs) → (b : Bool) → In x (if b then y ∷ filter p xs else filter p xs)
    by_test rest true = inr rest
    by_test rest false = rest

-- numbers that differ still do
pub differ_kept : (p : ℕ → Bool) (xs : List ℕ) → AllDiffer xs → AllDiffer (filter p xs)
differ_kept p [] h = tt
differ_kept p (x ∷ xs) h = by_test (differ_kept p xs h.1) (p x)
  where
    by_test : AllDiffer (filter p xs) → (b : Bool) → AllDiffer (if b then x ∷ filter p xs else filter p xs)
    by_test rest true = (λ here. h.0 (contains_in x xs (in_kept p xs x (in_contains x (filter p xs) here)).0), rest)
    by_test rest false = rest

-- ---- whether one passes

-- one more, where none has passed
pub any_more : {A : Type 0} (p : A → Bool) (xs : List A) (x : A) → list_any p xs ≡ false → list_any p (xs ++ x ∷ []) ≡ p x
any_more p [] x none = by_test (p x)
  where
    by_test : (b : Bool) → (b || false) ≡ b
    by_test true = refl
    by_test false = refl
any_more p (y ∷ xs) x none = by_test (λ rest. any_more p xs x rest) (p y) none
  where
    by_test : (list_any p xs ≡ false → list_any p (xs ++ x ∷ []) ≡ p x) → (b : Bool) → (b || list_any p xs) ≡ false → (b || list_any p (xs ++ x ∷ [])) ≡ p x
    by_test go true none = absurd cc
    by_test go false none = go none

pub any_there : {A : Type 0} (p : A → Bool) (xs : List A) (i : ℕ) (x : A) → slice_get xs i ≡ Some x → p x ≡ true → true ≡ list_any p xs
any_there p [] i x is passes = absurd cc
any_there p (y ∷ xs) zero x is passes = let same : y ≡ x = cc in sym (ap (λ (b : Bool). b || list_any p xs) (ap p same ∙ passes))
any_there p (y ∷ xs) (suc i) x is passes = by_test (any_there p xs i x is passes) (p y)
  where
    by_test : true ≡ list_any p xs → (b : Bool) → true ≡ (b || list_any p xs)
    by_test rest true = refl
    by_test rest false = rest
