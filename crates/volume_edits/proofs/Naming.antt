-- The names of a catalog's files differ.
use Rattle.std.proofs.Common.{◌≡◌, ℕ, false, List, [], ◌∷◌, ◌++◌, sym, ap, ◌∙◌, inl, inr, true≢false}
use Rattle.std.specs.Prelude.{bytes_eq}
use Rattle.std.specs.List.{AllByRecursion}
use Rattle.std.specs.Cmp.Lexicographic.{slice_cmp}
use Rattle.std.specs.Ordering.{nat_cmp, is_eq}
use Rattle.std.specs.declared.cmp.Ordering.TheVariants.{Less}
use Rattle.std.proofs.lemmas.Bool.{cases_Bool}
use Rattle.std.proofs.lemmas.Cmp.{nat_list_cmp_total}
use Rattle.std.proofs.lemmas.Map.Text.{is_eq-slice_cmp}
use Rattle.std.proofs.lemmas.Slice.Eq.{bytes_eq-Decides}
use Rattle.ex_base.specs.Order.{RisingTexts}
use Rattle.ex_base.proofs.Each.{split_each, each_as}
use Rattle.ex_base.proofs.Lists.{texts_tail}

abbrev pub Before : List ℕ → List ℕ → Type 0
Before a b = slice_cmp nat_cmp a b ≡ Less

pub differ_before : (a b : List ℕ) → Before a b → bytes_eq a b ≡ false
differ_before a b before = sym (is_eq-slice_cmp a b) ∙ ap is_eq before

pub differ_behind : (a b : List ℕ) → Before a b → bytes_eq b a ≡ false
differ_behind a b before = elim (cases_Bool (bytes_eq b a)) [
  | inl same ↦ absurd (true≢false (sym ((bytes_eq-Decides a b).1 (sym ((bytes_eq-Decides b a).0 same))) ∙ differ_before a b before))
  | inr differs ↦ differs
]

-- the first comes before all others
pub texts_head : (x : List ℕ) (xs : List (List ℕ)) → RisingTexts (x ∷ xs) → AllByRecursion (Before x) xs
texts_head x [] h = tt
texts_head x (y ∷ xs) h = (h.0, each_as (Before y) (Before x) xs (λ z next. nat_list_cmp_total.trans x y z h.0 next) (texts_head y xs h.1))

-- each other text differs from one among them
pub texts_differ : (xs : List (List ℕ)) (n : List ℕ) (ys : List (List ℕ)) → RisingTexts (xs ++ (n ∷ ys)) → AllByRecursion (λ m. bytes_eq m n ≡ false) xs × AllByRecursion (λ m. bytes_eq m n ≡ false) ys
texts_differ [] n ys h = (tt, each_as (Before n) (λ m. bytes_eq m n ≡ false) ys (λ m before. differ_behind n m before) (texts_head n ys h))
texts_differ (x ∷ xs) n ys h =
    let rest = texts_differ xs n ys (texts_tail x (xs ++ (n ∷ ys)) h) in
    let own = (split_each (Before x) xs (n ∷ ys) (texts_head x (xs ++ (n ∷ ys)) h)).1.0 in
    ((differ_before x n own, rest.0), rest.1)
