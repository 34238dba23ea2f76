-- Versions in order of their numbers, and one that has a number.
use Rattle.std.proofs.Common.{◌≡◌, ◌<◌, ◌≤◌, ◌+◌, ℕ, zero, suc, List, [], ◌∷◌, length, get_or, Some, None, refl, sym, subst, ◌∙◌, arith, inl, inr}
use Rattle.std.specs.Prelude.{◌==◌, map}
use Rattle.std.proofs.lemmas.Bool.{eqb-true, eq-eqb, cond-true, cond-false, cases_order, cases_lt, false_from_ne_true}
use Rattle.std.proofs.lemmas.List.{get_or_default}
use Rattle.ex_base.proofs.Lists.{rising_tail}
use Rattle.history_links.specs.declared.PlacedVersion.{PlacedVersion}
use Rattle.history_links.specs.Found.{IsNoNumber, version_at}
use Rattle.history_links.specs.Linked.{NumbersRise, number_in, place_numbered}

-- ---- order

first_below : (v : PlacedVersion) (vs : List PlacedVersion) (k : ℕ) → NumbersRise (v ∷ vs) → k < length vs → v.unique < (version_at vs k).unique
first_below v [] k rising l = absurd (omega arith)
first_below v (w ∷ vs) zero rising l = rising.0
first_below v (w ∷ vs) (suc k) rising l = let later = first_below w vs k rising.1 (omega arith) in omega (arith, later, rising.0)

pub numbers_rise : (vs : List PlacedVersion) (j k : ℕ) → NumbersRise vs → j < k → k < length vs → (version_at vs j).unique < (version_at vs k).unique
numbers_rise [] j k rising l m = absurd (omega arith)
numbers_rise (v ∷ vs) j zero rising l m = absurd (omega arith)
numbers_rise (v ∷ vs) zero (suc k) rising l m = first_below v vs k rising (omega arith)
numbers_rise (v ∷ vs) (suc j) (suc k) rising l m = numbers_rise vs j k (rising_tail v.unique (map number_in vs) rising) (omega arith) (omega arith)

-- two with one number have one index
pub one_index : (vs : List PlacedVersion) (j k : ℕ) → NumbersRise vs → j < length vs → k < length vs → (version_at vs j).unique ≡ (version_at vs k).unique → j ≡ k
one_index vs j k rising l m e = elim (cases_order j k) [
  | inl same ↦ same
  | inr apart ↦ elim apart [
    | inl below ↦ (let lt = numbers_rise vs j k rising below m in absurd (omega (arith, lt, e)))
    | inr above ↦ (let lt = numbers_rise vs k j rising above l in absurd (omega (arith, lt, e)))
  ]
]

-- ---- looking a number up

-- where the version with a number may be: behind those below one index, and before those from another one on
pub record LiesBetween (vs : List PlacedVersion) (number from to : ℕ) : Type 0 where
  pub order : from ≤ to
  pub within : to ≤ length vs
  pub before : (k : ℕ) → k < from → (version_at vs k).unique < number
  pub above : (k : ℕ) → to ≤ k → k < length vs → number < (version_at vs k).unique

pub between_all : (vs : List PlacedVersion) (number : ℕ) → LiesBetween vs number 0 (length vs)
between_all vs number = record { order = omega arith; within = omega arith; before = λ k l. absurd (omega arith); above = λ k l m. absurd (omega arith) }

pub go_up : (vs : List PlacedVersion) (number from to middle : ℕ) → NumbersRise vs → LiesBetween vs number from to → middle < to → (version_at vs middle).unique < number → LiesBetween vs number (middle + 1) to
go_up vs number from to middle rising so m is = record {
  order = omega arith;
  within = so.within;
  before = λ k l. elim (cases_order k middle) [
    | inl same ↦ subst (λ (j : ℕ). (version_at vs j).unique < number) (sym same) is
    | inr apart ↦ elim apart [
      | inl below ↦ (let lt = numbers_rise vs k middle rising below (let within = so.within in omega arith) in omega (arith, lt, is))
      | inr over ↦ absurd (omega arith)
    ]
  ];
  above = so.above;
}

pub go_down : (vs : List PlacedVersion) (number from to middle : ℕ) → NumbersRise vs → LiesBetween vs number from to → from ≤ middle → middle < to → number < (version_at vs middle).unique → LiesBetween vs number from middle
go_down vs number from to middle rising so l m is = record {
  order = l;
  within = (let within = so.within in omega arith);
  before = so.before;
  above = λ k over n. elim (cases_order middle k) [
    | inl same ↦ subst (λ (j : ℕ). number < (version_at vs j).unique) same is
    | inr apart ↦ elim apart [
      | inl below ↦ (let lt = numbers_rise vs middle k rising below n in omega (arith, lt, is))
      | inr above ↦ absurd (omega arith)
    ]
  ];
}

pub none_between : (vs : List PlacedVersion) (number from to : ℕ) → LiesBetween vs number from to → to ≤ from → IsNoNumber vs number
none_between vs number from to so ends k l is = elim (cases_lt k from) [
  | inl m ↦ (let lt = so.before k m in absurd (omega (arith, lt, is)))
  | inr m ↦ (let lt = so.above k (omega arith) l in absurd (omega (arith, lt, is)))
]

-- ---- the place of a number

place_apart : (v : PlacedVersion) (vs : List PlacedVersion) (number : ℕ) → (v.unique ≡ number → ⊥) → place_numbered (v ∷ vs) number ≡ place_numbered vs number
place_apart v vs number differ = cond-false (v.unique == number) (Some v.place) (place_numbered vs number) (false_from_ne_true (v.unique == number) (λ is. differ (eqb-true v.unique number is)))

pub place_there : (vs : List PlacedVersion) (at : ℕ) → NumbersRise vs → at < length vs → place_numbered vs (version_at vs at).unique ≡ Some (version_at vs at).place
place_there [] at rising l = absurd (omega arith)
place_there (v ∷ vs) zero rising l = cond-true (v.unique == v.unique) (Some v.place) (place_numbered vs v.unique) (eq-eqb v.unique v.unique refl)
place_there (v ∷ vs) (suc at) rising l =
    let lt = first_below v vs at rising (omega arith) in
    place_apart v vs (version_at vs at).unique (λ e. omega (arith, lt, e)) ∙ place_there vs at (rising_tail v.unique (map number_in vs) rising) (omega arith)

pub place_nowhere : (vs : List PlacedVersion) (number : ℕ) → IsNoNumber vs number → place_numbered vs number ≡ None
place_nowhere [] number none = refl
place_nowhere (v ∷ vs) number none = place_apart v vs number (λ e. none 0 (omega arith) e) ∙ place_nowhere vs number (λ k l e. none (suc k) (omega arith) e)

-- ---- as a step of the search reads it

pub below_there : (vs : List PlacedVersion) (number middle : ℕ) (d : PlacedVersion) → middle < length vs → (get_or vs middle d).unique < number → (version_at vs middle).unique < number
below_there vs number middle d l lt = subst (λ (v : PlacedVersion). v.unique < number) (get_or_default vs middle d (version_at [] 0) l) lt

pub over_there : (vs : List PlacedVersion) (number middle : ℕ) (d : PlacedVersion) → middle < length vs → number < (get_or vs middle d).unique → number < (version_at vs middle).unique
over_there vs number middle d l lt = subst (λ (v : PlacedVersion). number < v.unique) (get_or_default vs middle d (version_at [] 0) l) lt
