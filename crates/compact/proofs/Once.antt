-- Lists with each number once.
use Rattle.std.proofs.Common.{◌≡◌, inl, inr, ℕ, ◌≤◌, Bool, false, List, [], ◌∷◌, ◌++◌, sym, subst, ◌∙◌, arith, true≢false, eq-eqb}
use Rattle.std.specs.Prelude.{if◌then◌else◌, nat_eq}
use Rattle.std.specs.List.{AllByRecursion}
use Rattle.std.proofs.lemmas.Bool.{cases_Bool}
use Rattle.ex_base.specs.Ports.{times}
use Rattle.ex_base.proofs.Counts.{none_or_some, same_or_not, times_apart}
use Rattle.ex_base.proofs.Each.{each_as}
use Rattle.trees.specs.Made.{Has}
use Rattle.trees.proofs.Laid.{has_left}
use Rattle.trees.proofs.Over.{all_has}
use Rattle.compact.specs.High.{each_once}

pub has_of_times : (x : ℕ) (xs : List ℕ) → 1 ≤ times x xs → Has xs x
has_of_times x [] some = absurd (omega (arith, some))
has_of_times x (y ∷ xs) some = elim (same_or_not x y) [
  | inl same ↦ inl (sym same)
  | inr differ ↦ inr (has_of_times x xs (omega (arith, some, times_apart x y xs differ)))
]

again : (x : ℕ) (xs : List ℕ) → nat_eq (times x xs) 0 ≡ false → Has xs x
again x xs some = elim (none_or_some (times x xs)) [
  | inl none ↦ absurd (true≢false (sym (eq-eqb (times x xs) 0 none) ∙ some))
  | inr one ↦ has_of_times x xs one
]

-- each number of a list stands there
pub once_has : (xs : List ℕ) (p : ℕ) → Has xs p → Has (each_once xs) p
once_has [] p has = has
once_has (x ∷ xs) p has = elim (cases_Bool (nat_eq (times x xs) 0)) [
  | inl last ↦ subst (λ (b : Bool). Has (if b then x ∷ each_once xs else each_once xs) p) (sym last) (elim has [
    | inl e ↦ inl e
    | inr rest ↦ inr (once_has xs p rest)
  ])
  | inr more ↦ subst (λ (b : Bool). Has (if b then x ∷ each_once xs else each_once xs) p) (sym more) (elim has [
    | inl e ↦ once_has xs p (subst (Has xs) e (again x xs more))
    | inr rest ↦ once_has xs p rest
  ])
]

-- also of one that stands before others
pub front_once : (xs ys : List ℕ) → AllByRecursion (Has (each_once (xs ++ ys))) xs
front_once xs ys = each_as (Has xs) (Has (each_once (xs ++ ys))) xs (λ p has. once_has (xs ++ ys) p (has_left xs ys p has)) (all_has xs)
