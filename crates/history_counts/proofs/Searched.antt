-- Numbers that rise, and what is searched among them.
use Rattle.std.proofs.Common.{◌≡◌, ◌↔◌, ℕ, zero, suc, ◌-◌, ◌<◌, ◌+◌, ◌≤◌, true, false, List, [], ◌∷◌, ◌++◌, length, take, get_or, Some, None, Result, Ok, Err, is_ok, nat_lt, inl, inr, refl, sym, subst, ◌∙◌, arith}
use Rattle.std.specs.Prelude.{Contains, IsTrue, slice_get}
use Rattle.std.specs.List.{AllByRecursion}
use Rattle.std.specs.List.Sorted.{IsBinarySearchResult}
use Rattle.std.specs.Ordering.{nat_cmp}
use Rattle.std.proofs.lemmas.Bool.{cases_lt}
use Rattle.std.proofs.lemmas.Bool.Decides.{nat_tests}
use Rattle.std.proofs.lemmas.List.{get_or_default, take_all, take_more}
use Rattle.std.proofs.lemmas.List.Sorted.{searched}
use Rattle.ex_base.specs.Order.{Rising}
use Rattle.ex_base.proofs.Lists.{rising_tail}
use Rattle.ex_base.proofs.Rows.{each-append}

-- ---- order

above_all : (x : ℕ) (xs : List ℕ) (i : ℕ) → Rising (x ∷ xs) → i < length xs → x < get_or xs i 0
above_all x [] i rising lt = absurd (omega arith)
above_all x (y ∷ xs) zero rising lt = rising.0
above_all x (y ∷ xs) (suc i) rising lt = let later = above_all y xs i rising.1 (omega arith) in omega (arith, later, rising.0)

in_order : (xs : List ℕ) → Rising xs → (i j : ℕ) → i ≤ j → j < length xs → get_or xs i 0 ≤ get_or xs j 0
in_order [] rising i j le lt = absurd (omega arith)
in_order (x ∷ xs) rising zero zero le lt = omega arith
in_order (x ∷ xs) rising zero (suc j) le lt = let above = above_all x xs j rising (omega arith) in omega (arith, above)
in_order (x ∷ xs) rising (suc i) zero le lt = absurd (omega arith)
in_order (x ∷ xs) rising (suc i) (suc j) le lt = in_order xs (rising_tail x xs rising) i j (omega arith) (omega arith)

-- ---- one number more

pub rising_from : (xs : List ℕ) (n k last : ℕ) → Rising xs → length xs ≡ suc k → slice_get xs k ≡ Some last → last < n → Rising (xs ++ n ∷ [])
rising_from [] n k last rising len e lt = absurd (omega arith)
rising_from (x ∷ []) n zero last rising len e lt = (let same : x ≡ last = cc in omega arith, tt)
rising_from (x ∷ []) n (suc k) last rising len e lt = absurd (omega arith)
rising_from (x ∷ y ∷ xs) n zero last rising len e lt = absurd (omega arith)
rising_from (x ∷ y ∷ xs) n (suc k) last rising len e lt = (rising.0, rising_from (y ∷ xs) n k last rising.1 (omega arith) e lt)

pub rising_to : (xs : List ℕ) (n k last : ℕ) → length xs ≡ suc k → slice_get xs k ≡ Some last → Rising (xs ++ n ∷ []) → last < n
rising_to [] n k last len e rising = absurd (omega arith)
rising_to (x ∷ []) n zero last len e rising = let same : x ≡ last = cc in let lt = rising.0 in omega arith
rising_to (x ∷ []) n (suc k) last len e rising = absurd (omega arith)
rising_to (x ∷ y ∷ xs) n zero last len e rising = absurd (omega arith)
rising_to (x ∷ y ∷ xs) n (suc k) last len e rising = rising_to (y ∷ xs) n k last (omega arith) e rising.1

some_there : (xs : List ℕ) (k last : ℕ) → slice_get xs k ≡ Some last → 1 ≤ length xs
some_there [] zero last e = absurd (let no : None ≡ Some last = e in cc)
some_there [] (suc k) last e = absurd (let no : None ≡ Some last = e in cc)
some_there (x ∷ xs) k last e = omega arith

-- one more behind the last one
pub rises_behind : (xs : List ℕ) (n last : ℕ) → Rising xs → slice_get xs (length xs - 1) ≡ Some last → IsTrue (nat_lt last n) ↔ Rising (xs ++ n ∷ [])
rises_behind xs n last rising e =
    let some = some_there xs (length xs - 1) last e in
    let len : length xs ≡ suc (length xs - 1) = omega arith in
    (λ test. rising_from xs n (length xs - 1) last rising len e (true_lt last n test), λ more. lt_true last n (rising_to xs n (length xs - 1) last len e more))
  where
    true_lt : (a b : ℕ) → IsTrue (nat_lt a b) → a < b
    true_lt a b test = grind (arith, nat_tests)

    lt_true : (a b : ℕ) → a < b → IsTrue (nat_lt a b)
    lt_true a b lt = grind (arith, nat_tests)

pub alone_rises : (xs : List ℕ) (n : ℕ) → xs ≡ [] → Rising (xs ++ n ∷ [])
alone_rises xs n none = subst (λ (ys : List ℕ). Rising (ys ++ n ∷ [])) (sym none) tt

-- ---- each of a front

pub each_more : (P : ℕ → Type 0) (xs : List ℕ) (i : ℕ) → i < length xs → AllByRecursion P (take i xs) → P (get_or xs i 0) → AllByRecursion P (take (i + 1) xs)
each_more P xs i lt each here = subst (AllByRecursion P) (sym (take_more xs i 0 lt)) (each-append P (take i xs) (get_or xs i 0 ∷ []) each (here, tt))

pub each_whole : (P : ℕ → Type 0) (xs : List ℕ) (i : ℕ) → length xs ≤ i → AllByRecursion P (take i xs) → AllByRecursion P xs
each_whole P xs i le each = subst (AllByRecursion P) (take_all i xs le) each

-- ---- a search

false_true : false ≡ true → ⊥
false_true e = cc

pub found : (xs : List ℕ) (x : ℕ) (r : Result ℕ ℕ) → Rising xs → IsBinarySearchResult (λ (y : ℕ). nat_cmp y x) xs r → IsTrue (is_ok r) ↔ Contains xs x
found xs x (Ok i) rising is =
    let at = searched xs x (Ok i) is (in_order xs rising) in
    (λ t. (i, at.0, get_or_default xs i x 0 at.0 ∙ at.1), λ has. refl)
found xs x (Err i) rising is =
    let at = searched xs x (Err i) is (in_order xs rising) in (
      λ t. absurd (false_true t),
      λ has. absurd (
          let there : get_or xs has.0 0 ≡ x = get_or_default xs has.0 0 x has.1 ∙ has.2 in
          elim (cases_lt has.0 i) [
            | inl lt ↦ (let below = at.1 has.0 lt in omega (arith, below, there))
            | inr ge ↦ (let above = at.2 has.0 ge has.1 in omega (arith, above, there))
          ]),
    )
