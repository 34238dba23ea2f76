-- How often a number stands in a list, and lists whose numbers differ.
use Rattle.std.proofs.Common.{◌≡◌, ◌≢◌, ◌≤◌, ◌<◌, ◌+◌, ◌⊎◌, ◌↔◌, inl, inr, ℕ, zero, suc, Bool, true, false, List, [], ◌∷◌, ◌++◌, sum_by, length, refl, sym, subst, ◌∙◌, arith, true≢false, eqb, eq-eqb, eqb-true, IsPermutation}
use Rattle.std.specs.Prelude.{Contains}
use Rattle.std.specs.List.{flat_map, AllByRecursion}
use Rattle.std.proofs.lemmas.List.Recursion.{is_sum_by}
use Rattle.std.proofs.lemmas.List.Sums.{sum_by-cons}
use Rattle.std.proofs.lemmas.List.Sorted.{sum_by-IsPermutation}
use Rattle.ex_base.specs.Order.{AllDiffer}
use Rattle.ex_base.specs.Ports.{times}

-- ---- numbers that are the same, or not

pub same_or_not : (p q : ℕ) → (p ≡ q) ⊎ (p ≢ q)
same_or_not p q = (elim (eqb p q) as (λ t. eqb p q ≡ t → (p ≡ q) ⊎ (p ≢ q)) [
  | true ↦ λ t. inl (eqb-true p q t)
  | false ↦ λ t. inr (λ same. true≢false (sym (eq-eqb p q same) ∙ t))
]) refl

pub not_equal : (p q : ℕ) → p ≢ q → eqb p q ≡ false
not_equal p q differ = (elim (eqb p q) as (λ t. eqb p q ≡ t → eqb p q ≡ false) [
  | true ↦ λ t. absurd (differ (eqb-true p q t))
  | false ↦ λ t. t
]) refl

pub none_or_some : (n : ℕ) → (n ≡ 0) ⊎ (1 ≤ n)
none_or_some zero = inl refl
none_or_some (suc n) = inr (omega arith)

-- ---- how often a number stands in a list

pub times-append : (page : ℕ) (xs ys : List ℕ) → times page (xs ++ ys) ≡ times page xs + times page ys
times-append page [] ys = omega arith
times-append page (x ∷ xs) ys = omega (arith, times-append page xs ys)

pub times_here : (p q : ℕ) (xs : List ℕ) → p ≡ q → times p (q ∷ xs) ≡ 1 + times p xs
times_here p q xs same = let test : eqb q p ≡ true = eq-eqb q p (sym same) in rw test refl

pub times_apart : (p q : ℕ) (xs : List ℕ) → p ≢ q → times p (q ∷ xs) ≡ times p xs
times_apart p q xs differ = let test : eqb q p ≡ false = not_equal q p (λ same. differ (sym same)) in rw test (omega arith)

-- what doesn't stand in the list isn't its first number
pub apart_of : (p q : ℕ) (xs : List ℕ) → times p (q ∷ xs) ≡ 0 → p ≢ q
apart_of p q xs none same = absurd (omega (arith, times_here p q xs same, none))

pub times_flat : {A : Type 0} (u : ℕ) (f : A → List ℕ) (xs : List A) → times u (flat_map f xs) ≡ sum_by (λ x. times u (f x)) xs
times_flat u f [] = refl
times_flat u f (x ∷ xs) = omega (arith, times-append u (f x) (flat_map f xs), times_flat u f xs, sum_by-cons (λ y. times u (f y)) x xs)

-- ---- how many numbers a list has

pub times_most : (p : ℕ) (xs : List ℕ) → times p xs ≤ length xs
times_most p [] = omega arith
times_most p (x ∷ xs) = elim (same_or_not p x) [
  | inl same ↦ omega (arith, times_here p x xs same, times_most p xs)
  | inr differ ↦ omega (arith, times_apart p x xs differ, times_most p xs)
]

-- how often the n numbers from a first one on stand in a list
abbrev times_from : ℕ → ℕ → List ℕ → ℕ
times_from first zero xs = 0
times_from first (suc n) xs = times (first + n) xs + times_from first n xs

from_more : (first n x : ℕ) (xs : List ℕ) → times_from first n xs ≤ times_from first n (x ∷ xs)
from_more first zero x xs = omega arith
from_more first (suc n) x xs = omega (arith, from_more first n x xs)

from_here : (first n x : ℕ) (xs : List ℕ) → first ≤ x → x < first + n → times_from first n xs + 1 ≤ times_from first n (x ∷ xs)
from_here first zero x xs low high = absurd (omega (arith, low, high))
from_here first (suc n) x xs low high = elim (same_or_not (first + n) x) [
  | inl same ↦ omega (arith, times_here (first + n) x xs same, from_more first n x xs)
  | inr differ ↦ omega (arith, from_here first n x xs low (omega (arith, high, differ)))
]

from_all : (first n : ℕ) (xs : List ℕ) → AllByRecursion (λ x. (first ≤ x) × (x < first + n)) xs → length xs ≤ times_from first n xs
from_all first n [] inside = omega arith
from_all first n (x ∷ xs) inside = omega (arith, from_here first n x xs inside.0.0 inside.0.1, from_all first n xs inside.1)

from_once : (first n : ℕ) (xs : List ℕ) → ((x : ℕ) → times x xs ≤ 1) → times_from first n xs ≤ n
from_once first zero xs once = omega arith
from_once first (suc n) xs once = omega (arith, once (first + n), from_once first n xs once)

-- numbers of a range, none of them twice, are no more than the range has
pub few_once : (first n : ℕ) (xs : List ℕ) → AllByRecursion (λ x. (first ≤ x) × (x < first + n)) xs → ((x : ℕ) → times x xs ≤ 1) → length xs ≤ n
few_once first n xs inside once = omega (arith, from_all first n xs inside, from_once first n xs once)

-- ---- a number stands in the list exactly where it stands there once or more

pub contains_times : (x : ℕ) (xs : List ℕ) → Contains xs x → 1 ≤ times x xs
contains_times x [] here = absurd (omega (arith, here.1))
contains_times x (y ∷ xs) (zero, lt, is) = omega (arith, times_here x y xs (sym is))
contains_times x (y ∷ xs) (suc k, lt, is) = omega (arith, contains_times x xs (k, omega (arith, lt), is))

pub times_contains : (x : ℕ) (xs : List ℕ) → 1 ≤ times x xs → Contains xs x
times_contains x [] some = absurd (omega arith)
times_contains x (y ∷ xs) some = elim (same_or_not x y) [
  | inl same ↦ (zero, omega arith, sym same)
  | inr differ ↦
      let rest = times_contains x xs (omega (arith, times_apart x y xs differ)) in
      (suc rest.0, omega (arith, rest.1), rest.2)
]

-- ---- numbers differ exactly where none stands twice

absent : (x y : ℕ) (xs : List ℕ) → x ≡ y → ¬ Contains xs y → times x xs ≤ 0
absent x y xs same lacks = elim (none_or_some (times x xs)) [
  | inl none ↦ omega (arith, none)
  | inr some ↦ absurd (lacks (subst (Contains xs) same (times_contains x xs some)))
]

pub differ_once : (xs : List ℕ) → AllDiffer xs → (x : ℕ) → times x xs ≤ 1
differ_once [] differ x = omega arith
differ_once (y ∷ xs) differ x = elim (same_or_not x y) [
  | inl same ↦ omega (arith, times_here x y xs same, absent x y xs same differ.0)
  | inr other ↦ omega (arith, times_apart x y xs other, differ_once xs differ.1 x)
]

pub once_differ : (xs : List ℕ) → ((x : ℕ) → times x xs ≤ 1) → AllDiffer xs
once_differ [] once = tt
once_differ (y ∷ xs) once = (
  λ here. absurd (omega (arith, contains_times y xs here, times_here y y xs refl, once y)),
  once_differ xs (λ x. omega (arith, once x)),
)

-- ---- another order

-- a number stands as often in another order
pub times_permuted : (x : ℕ) (xs ys : List ℕ) → IsPermutation xs ys → times x ys ≡ times x xs
times_permuted x xs ys same = counted ys ∙ sum_by-IsPermutation is xs ys same ∙ sym (counted xs)
  where
    is : ℕ → ℕ
    is y = times x (y ∷ [])

    step : (y : ℕ) (zs : List ℕ) → times x (y ∷ zs) ≡ is y + times x zs
    step y zs = omega (arith, times-append x (y ∷ []) zs)

    counted : (zs : List ℕ) → times x zs ≡ sum_by is zs
    counted zs = is_sum_by (times x) is refl step zs

pub differ_permuted : (xs ys : List ℕ) → IsPermutation xs ys → AllDiffer xs → AllDiffer ys
differ_permuted xs ys same differ = once_differ ys (λ x. omega (arith, times_permuted x xs ys same, differ_once xs differ x))

-- what stands in a list stands in it in another order
pub contains_permuted : (x : ℕ) (xs ys : List ℕ) → IsPermutation xs ys → Contains xs x → Contains ys x
contains_permuted x xs ys same here = times_contains x ys (omega (arith, times_permuted x xs ys same, contains_times x xs here))

pub permuted_contains : (x : ℕ) (xs ys : List ℕ) → IsPermutation xs ys → Contains ys x → Contains xs x
permuted_contains x xs ys same here = times_contains x xs (omega (arith, times_permuted x xs ys same, contains_times x ys here))

-- the used units, by how often they stand in a list
pub used_times : (used : ℕ → Bool) (pages : List ℕ) → ((page : ℕ) → (used page ≡ true) ↔ Contains pages page) → (page : ℕ) → (used page ≡ true) ↔ (1 ≤ times page pages)
used_times used pages is page = (
  λ yes. contains_times page pages ((is page).0 yes),
  λ some. (is page).1 (times_contains page pages some),
)
