-- What is derived from each version, counted one version after the other.
use Rattle.std.proofs.Common.{◌≡◌, ◌<◌, ◌≤◌, ◌+◌, ℕ, Bool, true, false, cond, List, [], ◌∷◌, ◌++◌, length, get_or, set, take, replicate, Option, Some, None, refl, sym, ap, subst, ◌∙◌, arith, inl, inr, ◌⊎◌}
use Rattle.std.specs.Prelude.{◌==◌, filter}
use Rattle.std.proofs.lemmas.Bool.{cond-true, cond-false, cases_eq, eqb-true, eq-eqb, false_from_ne_true}
use Rattle.std.proofs.lemmas.List.{length-set, get_or-set_same, get_or-set_other, get_or-replicate, length-replicate, take_more, take_all, get_or_default}
use Rattle.history_links.specs.declared.PlacedVersion.{PlacedVersion}
use Rattle.history_links.specs.declared.derived.Derived.{Derived}
use Rattle.history_links.specs.declared.derived.Derived.TheVariants.{Nothing}
use Rattle.history_links.specs.Found.{AreDerived, IsNoNumber, OlderIs, counted, told, version_at, with_one}
use Rattle.history_links.specs.Linked.{NumbersRise, derived_from, is_number, names_older}
use Rattle.history_links.proofs.NumberOrder.{one_index}

told_push : (xs : List PlacedVersion) (v : PlacedVersion) → told (xs ++ v ∷ []) ≡ with_one (told xs) v.place
told_push [] v = refl
told_push (x ∷ []) v = refl
told_push (x ∷ y ∷ xs) v = refl

push_true : (p : PlacedVersion → Bool) (xs : List PlacedVersion) (x : PlacedVersion) → p x ≡ true → filter p (xs ++ x ∷ []) ≡ filter p xs ++ x ∷ []
push_true p [] x is = cond-true (p x) (x ∷ []) [] is
push_true p (y ∷ ys) x is = by (p y) (push_true p ys x is)
  where
    by : (b : Bool) → filter p (ys ++ x ∷ []) ≡ filter p ys ++ x ∷ [] → cond b (y ∷ filter p (ys ++ x ∷ [])) (filter p (ys ++ x ∷ [])) ≡ cond b (y ∷ filter p ys) (filter p ys) ++ x ∷ []
    by true rest = ap (λ (l : List PlacedVersion). y ∷ l) rest
    by false rest = rest

push_false : (p : PlacedVersion → Bool) (xs : List PlacedVersion) (x : PlacedVersion) → p x ≡ false → filter p (xs ++ x ∷ []) ≡ filter p xs
push_false p [] x is = cond-false (p x) (x ∷ []) [] is
push_false p (y ∷ ys) x is = ap (λ (l : List PlacedVersion). cond (p y) (y ∷ l) l) (push_false p ys x is)

-- ---- one version more

more_true : (vs : List PlacedVersion) (i number : ℕ) → i < length vs → names_older number (version_at vs i) ≡ true → derived_from number (take (i + 1) vs) ≡ derived_from number (take i vs) ++ version_at vs i ∷ []
more_true vs i number l is = ap (derived_from number) (take_more vs i (version_at [] 0) l) ∙ push_true (names_older number) (take i vs) (version_at vs i) is

more_false : (vs : List PlacedVersion) (i number : ℕ) → i < length vs → names_older number (version_at vs i) ≡ false → derived_from number (take (i + 1) vs) ≡ derived_from number (take i vs)
more_false vs i number l is = ap (derived_from number) (take_more vs i (version_at [] 0) l) ∙ push_false (names_older number) (take i vs) (version_at vs i) is

-- a version that names no number of these as its older one's names none of them
names_none : (vs : List PlacedVersion) (k : ℕ) (o : Option ℕ) → ((number : ℕ) → o ≡ Some number → IsNoNumber vs number) → k < length vs → is_number (version_at vs k).unique o ≡ false
names_none vs k None none l = refl
names_none vs k (Some number) none l = false_from_ne_true ((version_at vs k).unique == number) (λ is. none number refl k l (eqb-true (version_at vs k).unique number is))

-- what is told of the version at k, where one more is derived from that at a
counted_one : (vs : List PlacedVersion) (i a k : ℕ) (derived : List Derived) → NumbersRise vs → i < length vs → AreDerived vs i derived → OlderIs vs (version_at vs i) (Some a) → k < length vs → (k ≡ a) ⊎ (k ≡ a → ⊥)
    → get_or (set derived a (with_one (get_or derived a Nothing) (version_at vs i).place)) k Nothing ≡ told (derived_from (version_at vs k).unique (take (i + 1) vs))
counted_one vs i a k derived rising l so is m (inl e) =
    let test : names_older (version_at vs a).unique (version_at vs i) ≡ true = ap (is_number (version_at vs a).unique) is.1 ∙ eq-eqb (version_at vs a).unique (version_at vs a).unique refl in
    let here = get_or-set_same derived a (with_one (get_or derived a Nothing) (version_at vs i).place) Nothing (omega (arith, so.len, is.0)) in
    let was = ap (λ (d : Derived). with_one d (version_at vs i).place) (so.each a is.0) in
    let push = sym (told_push (derived_from (version_at vs a).unique (take i vs)) (version_at vs i)) in
    let now = ap told (sym (more_true vs i (version_at vs a).unique l test)) in
    subst (λ (j : ℕ). get_or (set derived a (with_one (get_or derived a Nothing) (version_at vs i).place)) j Nothing ≡ told (derived_from (version_at vs j).unique (take (i + 1) vs))) (sym e) (here ∙ was ∙ push ∙ now)
counted_one vs i a k derived rising l so is m (inr apart) =
    let differ : (version_at vs k).unique ≡ (version_at vs a).unique → ⊥ = λ e. apart (one_index vs k a rising m is.0 e) in
    let test : names_older (version_at vs k).unique (version_at vs i) ≡ false =
    ap (is_number (version_at vs k).unique) is.1 ∙ false_from_ne_true ((version_at vs k).unique == (version_at vs a).unique) (λ t. differ (eqb-true (version_at vs k).unique (version_at vs a).unique t)) in
    get_or-set_other derived a k (with_one (get_or derived a Nothing) (version_at vs i).place) Nothing apart ∙ so.each k m ∙ ap told (sym (more_false vs i (version_at vs k).unique l test))

counted_more : (vs : List PlacedVersion) (i : ℕ) (o : Option ℕ) (derived : List Derived) → NumbersRise vs → i < length vs → AreDerived vs i derived → OlderIs vs (version_at vs i) o
    → AreDerived vs (i + 1) (counted o (version_at vs i).place derived)
counted_more vs i None derived rising l so is = record {
  len = so.len;
  each = λ k m. so.each k m ∙ ap told (sym (more_false vs i (version_at vs k).unique l (names_none vs k (version_at vs i).older is m)));
}
counted_more vs i (Some a) derived rising l so is = record {
  len = length-set derived a (with_one (get_or derived a Nothing) (version_at vs i).place) ∙ so.len;
  each = λ k m. counted_one vs i a k derived rising l so is m (cases_eq k a);
}

pub none_counted : (vs : List PlacedVersion) (derived : List Derived) → derived ≡ replicate (length vs) Nothing → AreDerived vs 0 derived
none_counted vs derived e = subst (AreDerived vs 0) (sym e) (record {
  len = length-replicate (length vs) Nothing;
  each = λ k l. get_or-replicate (length vs) k Nothing Nothing l;
})

-- as a step of the loop reads it
pub counted_step : (vs : List PlacedVersion) (i : ℕ) (o : Option ℕ) (derived now : List Derived) (d : PlacedVersion) → NumbersRise vs → i < length vs → AreDerived vs i derived → OlderIs vs (version_at vs i) o
    → now ≡ counted o (get_or vs i d).place derived → AreDerived vs (i + 1) now
counted_step vs i o derived now d rising l so older is =
    let here : get_or vs i d ≡ version_at vs i = get_or_default vs i d (version_at [] 0) l in
    subst (AreDerived vs (i + 1)) (sym (is ∙ ap (λ (v : PlacedVersion). counted o v.place derived) here)) (counted_more vs i o derived rising l so older)

pub counted_all : (vs : List PlacedVersion) (n : ℕ) (derived : List Derived) → length vs ≤ n → AreDerived vs n derived → AreDerived vs (length vs) derived
counted_all vs n derived high so = record {
  len = so.len;
  each = λ k l. so.each k l ∙ ap (λ (all : List PlacedVersion). told (derived_from (version_at vs k).unique all)) (take_all n vs high ∙ sym (take_all (length vs) vs (omega arith)));
}

-- what is derived from the version at an index
pub derived_here : (vs : List PlacedVersion) (derived : List Derived) (k : ℕ) (d : Derived) → AreDerived vs (length vs) derived → k < length vs → get_or derived k d ≡ told (derived_from (version_at vs k).unique vs)
derived_here vs derived k d so l =
    get_or_default derived k d Nothing (omega (arith, so.len, l)) ∙ so.each k l ∙ ap (λ (all : List PlacedVersion). told (derived_from (version_at vs k).unique all)) (take_all (length vs) vs (omega arith))
