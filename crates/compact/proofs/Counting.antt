-- How many different numbers a list has.
use Rattle.std.proofs.Common.{◌≡◌, inl, inr, ℕ, ◌+◌, ◌≤◌, Bool, List, [], ◌∷◌, length, refl, sym, subst, arith, eqb-true}
use Rattle.std.specs.Prelude.{if◌then◌else◌, nat_eq}
use Rattle.std.specs.List.{AllByRecursion}
use Rattle.std.proofs.lemmas.Bool.{cases_Bool, cases_eq}
use Rattle.ex_base.specs.Ports.{times}
use Rattle.ex_base.proofs.Counts.{none_or_some, same_or_not, times_apart, times_here}
use Rattle.trees.specs.Made.{Has}
use Rattle.trees.proofs.Owned.{at_one}
use Rattle.trees.proofs.Released.{gone, without_one}
use Rattle.compact.specs.High.{each_once}
use Rattle.compact.proofs.Once.{once_has}

pub times_of_has : (x : ℕ) (xs : List ℕ) → Has xs x → 1 ≤ times x xs
times_of_has x [] has = absurd has
times_of_has x (y ∷ xs) (inl same) = omega (arith, times_here x y xs (sym same))
times_of_has x (y ∷ xs) (inr rest) = elim (same_or_not x y) [
  | inl same ↦ omega (arith, times_here x y xs same)
  | inr differ ↦ omega (arith, times_apart x y xs differ, times_of_has x xs rest)
]

abbrev count_of : List ℕ → ℕ
count_of xs = length xs

length_less : (p : ℕ) (xs : List ℕ) → 1 ≤ times p xs → count_of (without_one p xs) + 1 ≡ count_of xs
length_less p [] some = absurd (omega (arith, some))
length_less p (x ∷ xs) some = (elim (cases_eq p x) as (λ c. count_of (elim c [ inl same ↦ xs | inr other ↦ x ∷ without_one p xs ]) + 1 ≡ count_of (x ∷ xs)) [
  | inl same ↦ omega arith
  | inr other ↦ omega (arith, length_less p xs (omega (arith, some, times_apart p x xs other)))
])

-- a list without repeats is no longer than one that has all its numbers
fewer : (xs ys : List ℕ) → ((p : ℕ) → times p xs ≤ 1) → ((p : ℕ) → 1 ≤ times p xs → 1 ≤ times p ys) → length xs ≤ length ys
fewer [] ys once into = omega arith
fewer (x ∷ xs) ys once into =
    let rest = fewer xs (without_one x ys) (λ p. elim (same_or_not p x) [
      | inl same ↦ omega (arith, once p, times_here p x xs same)
      | inr differ ↦ omega (arith, once p, times_apart p x xs differ)
    ]) (λ p some. elim (same_or_not p x) [
      | inl same ↦ absurd (omega (arith, once p, times_here p x xs same, some))
      | inr differ ↦ omega (arith, gone x p ys (λ e. differ (sym e)), into p (omega (arith, some, times_apart p x xs differ)))
    ]) in
    omega (arith, rest, length_less x ys (into x (omega (arith, times_here x x xs refl))))

-- ---- each number once

once_in : (xs : List ℕ) (p : ℕ) → 1 ≤ times p (each_once xs) → 1 ≤ times p xs
once_in [] p some = some
once_in (x ∷ xs) p some = elim (same_or_not p x) [
  | inl same ↦ omega (arith, times_here p x xs same)
  | inr differ ↦ elim (cases_Bool (nat_eq (times x xs) 0)) [
    | inl last ↦
        let now : 1 ≤ times p (x ∷ each_once xs) = subst (λ (b : Bool). 1 ≤ times p (if b then x ∷ each_once xs else each_once xs)) last some in
        omega (arith, times_apart p x xs differ, once_in xs p (omega (arith, now, times_apart p x (each_once xs) differ)))
    | inr more ↦ omega (arith, times_apart p x xs differ, once_in xs p (subst (λ (b : Bool). 1 ≤ times p (if b then x ∷ each_once xs else each_once xs)) more some))
  ]
]

pub once_times : (xs : List ℕ) (p : ℕ) → times p (each_once xs) ≤ 1
once_times [] p = omega arith
once_times (x ∷ xs) p = elim (cases_Bool (nat_eq (times x xs) 0)) [
  | inl last ↦ subst (λ (b : Bool). times p (if b then x ∷ each_once xs else each_once xs) ≤ 1) (sym last) (elim (same_or_not p x) [
    | inl same ↦
        let never : times x xs ≡ 0 = eqb-true (times x xs) 0 last in
        let none : times p xs ≡ 0 = subst (λ q. times q xs ≡ 0) (sym same) never in
        elim (none_or_some (times p (each_once xs))) [
          | inl zero_times ↦ omega (arith, times_here p x (each_once xs) same, zero_times)
          | inr some ↦ absurd (omega (arith, once_in xs p some, none))
        ]
    | inr differ ↦ omega (arith, times_apart p x (each_once xs) differ, once_times xs p)
  ])
  | inr more ↦ subst (λ (b : Bool). times p (if b then x ∷ each_once xs else each_once xs) ≤ 1) (sym more) (once_times xs p)
]

-- a list without repeats that has the numbers of another one has as many as that has different ones
pub same_count : (xs all : List ℕ) → ((p : ℕ) → times p xs ≤ 1) → AllByRecursion (Has all) xs → AllByRecursion (Has xs) all → length xs ≡ length (each_once all)
same_count xs all once inside listed =
    let least = fewer xs (each_once all) once (λ p some. times_of_has p (each_once all) (once_has all p (at_one (Has all) xs p inside some))) in
    let most = fewer (each_once all) xs (once_times all) (λ p some. times_of_has p xs (at_one (Has xs) all p listed (once_in all p some))) in
    omega (arith, least, most)
