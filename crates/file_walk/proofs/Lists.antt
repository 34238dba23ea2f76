-- What is left of a list behind an item, and lists that are gathered item by item.
use Rattle.std.proofs.Common.{◌≡◌, ◌≤◌, ◌+◌, ℕ, List, [], ◌∷◌, ◌++◌, length, drop, Option, Some, None, sym, ap, ◌∙◌, append_assoc}
use Rattle.std.specs.Prelude.{slice_get, map, Contains, OnSome}
use Rattle.std.specs.List.{flat_map}
use Rattle.std.proofs.lemmas.List.{append-nil, map-append, drop_all}
use Rattle.std.proofs.lemmas.Option.{slice_get_within, get_or_from_slice_get}
use Rattle.ex_base.specs.declared.names.PageNo.{PageNo}
use Rattle.ex_base.proofs.Lists.{drop_item}
use Rattle.version_lists.proofs.Lists.{contains_has, has_contains, has_map}
use Rattle.file_walk.specs.Walk.{page_numbers}

pub drop_get : {A : Type 0} (xs : List A) (i : ℕ) (x : A) → slice_get xs i ≡ Some x → drop i xs ≡ x ∷ drop (i + 1) xs
drop_get xs i x is = drop_item xs i x (slice_get_within xs i x is) (sym (get_or_from_slice_get xs i x x is))

pub numbers-append : (xs ys : List PageNo) → page_numbers (xs ++ ys) ≡ page_numbers xs ++ page_numbers ys
numbers-append xs ys = map-append (λ (page : PageNo). page.0) xs ys

-- ---- a list that gathers what each item gives

pub gather_step : {A B : Type 0} (f : A → List B) (all now next : List B) (xs : List A) (i : ℕ) (x : A) → drop i xs ≡ x ∷ drop (i + 1) xs → all ≡ now ++ flat_map f (drop i xs) → next ≡ now ++ f x → all ≡ next ++ flat_map f (drop (i + 1) xs)
gather_step {A} {B} f all now next xs i x here before is =
    before ∙ ap (λ (t : List A). now ++ flat_map f t) here ∙ sym (append_assoc now (f x) (flat_map f (drop (i + 1) xs))) ∙ ap (λ (t : List B). t ++ flat_map f (drop (i + 1) xs)) (sym is)

pub gather_end : {A B : Type 0} (f : A → List B) (all now : List B) (xs : List A) (i : ℕ) → length xs ≤ i → all ≡ now ++ flat_map f (drop i xs) → now ≡ all
gather_end {A} f all now xs i le before = sym (before ∙ ap (λ (t : List A). now ++ flat_map f t) (drop_all i xs le) ∙ append-nil now)

pub collect_step : {A B : Type 0} (f : A → B) (all now next : List B) (xs : List A) (i : ℕ) (x : A) → drop i xs ≡ x ∷ drop (i + 1) xs → all ≡ now ++ map f (drop i xs) → next ≡ now ++ (f x ∷ []) → all ≡ next ++ map f (drop (i + 1) xs)
collect_step {A} {B} f all now next xs i x here before is =
    before ∙ ap (λ (t : List A). now ++ map f t) here ∙ sym (append_assoc now (f x ∷ []) (map f (drop (i + 1) xs))) ∙ ap (λ (t : List B). t ++ map f (drop (i + 1) xs)) (sym is)

pub collect_end : {A B : Type 0} (f : A → B) (all now : List B) (xs : List A) (i : ℕ) → length xs ≤ i → all ≡ now ++ map f (drop i xs) → now ≡ all
collect_end {A} f all now xs i le before = sym (before ∙ ap (λ (t : List A). now ++ map f t) (drop_all i xs le) ∙ append-nil now)

-- ---- what stands in a list

pub contains_map : {A B : Type 0} (f : A → B) (xs : List A) (x : A) → Contains xs x → Contains (map f xs) (f x)
contains_map f xs x there = has_contains (map f xs) (f x) (has_map f xs x (contains_has xs x there))

-- ---- what a clause says of an option that is known

pub on_some : {A : Type 0} (o : Option A) (x : A) (X : Type 0) → o ≡ Some x → OnSome o X → X
on_some None x X is h = absurd cc
on_some (Some y) x X is h = h
