-- What is derived from each record, counted one record after the other.
use Rattle.std.proofs.Common.{◌≡◌, ◌↔◌, ◌<◌, ◌≤◌, ◌+◌, below_more, ℕ, Bool, true, false, cond, List, [], ◌∷◌, ◌++◌, length, get_or, set, take, replicate, Option, Some, None, refl, sym, ap, subst, ◌∙◌, arith, inl, inr, ◌⊎◌}
use Rattle.std.specs.Prelude.{filter}
use Rattle.std.proofs.lemmas.Bool.{cond-true, cond-false, cases_eq}
use Rattle.std.proofs.lemmas.List.{length-set, get_or-set_same, get_or-set_other, get_or-replicate, length-replicate, take_more, take_all, get_or_default}
use Rattle.ex_base.specs.declared.names.Place.{Place}
use Rattle.record_links.specs.declared.Linked.{Linked}
use Rattle.record_links.specs.declared.derived.Derived.{Derived}
use Rattle.record_links.specs.declared.derived.Derived.TheVariants.{Nothing}
use Rattle.record_links.specs.Links.{InPlaceOrder, NewerIs, is_place, names_older, derived_from}
use Rattle.record_links.specs.Found.{linked_at, IsFrom, OlderIs, AreOlders, with_one, told, counted, AreDerived, HasNewer}
use Rattle.record_links.proofs.PlaceOrder.{is_same, is_other, one_index}

told_push : (xs : List Linked) (r : Linked) → told (xs ++ r ∷ []) ≡ with_one (told xs) r.place
told_push [] r = refl
told_push (x ∷ []) r = refl
told_push (x ∷ y ∷ xs) r = refl

push_true : (p : Linked → Bool) (xs : List Linked) (x : Linked) → p x ≡ true → filter p (xs ++ x ∷ []) ≡ filter p xs ++ x ∷ []
push_true p [] x is = cond-true (p x) (x ∷ []) [] is
push_true p (y ∷ ys) x is = by (p y) (push_true p ys x is)
  where
    by : (b : Bool) → filter p (ys ++ x ∷ []) ≡ filter p ys ++ x ∷ [] → cond b (y ∷ filter p (ys ++ x ∷ [])) (filter p (ys ++ x ∷ [])) ≡ cond b (y ∷ filter p ys) (filter p ys) ++ x ∷ []
    by true rest = ap (λ (l : List Linked). y ∷ l) rest
    by false rest = rest

push_false : (p : Linked → Bool) (xs : List Linked) (x : Linked) → p x ≡ false → filter p (xs ++ x ∷ []) ≡ filter p xs
push_false p [] x is = cond-false (p x) (x ∷ []) [] is
push_false p (y ∷ ys) x is = ap (λ (l : List Linked). cond (p y) (y ∷ l) l) (push_false p ys x is)

-- ---- one record more

more_true : (rs : List Linked) (i : ℕ) (place : Place) → i < length rs → names_older place (linked_at rs i) ≡ true → derived_from place (take (i + 1) rs) ≡ derived_from place (take i rs) ++ linked_at rs i ∷ []
more_true rs i place l is = ap (derived_from place) (take_more rs i (linked_at [] 0) l) ∙ push_true (names_older place) (take i rs) (linked_at rs i) is

more_false : (rs : List Linked) (i : ℕ) (place : Place) → i < length rs → names_older place (linked_at rs i) ≡ false → derived_from place (take (i + 1) rs) ≡ derived_from place (take i rs)
more_false rs i place l is = ap (derived_from place) (take_more rs i (linked_at [] 0) l) ∙ push_false (names_older place) (take i rs) (linked_at rs i) is

-- what is told of the record at k, where one more is derived from that at a
counted_one : (rs : List Linked) (i a k : ℕ) (derived : List Derived) → InPlaceOrder rs → i < length rs → AreDerived rs i derived → IsFrom rs (linked_at rs i) a → k < length rs → (k ≡ a) ⊎ (k ≡ a → ⊥)
    → get_or (set derived a (with_one (get_or derived a Nothing) (linked_at rs i).place)) k Nothing ≡ told (derived_from (linked_at rs k).place (take (i + 1) rs))
counted_one rs i a k derived order l so is m (inl e) =
    let test : names_older (linked_at rs a).place (linked_at rs i) ≡ true = ap (is_place (linked_at rs a).place) is.named ∙ is_same (linked_at rs a).place (linked_at rs a).place refl in
    let here = get_or-set_same derived a (with_one (get_or derived a Nothing) (linked_at rs i).place) Nothing (omega (arith, so.len, is.within)) in
    let was = ap (λ (d : Derived). with_one d (linked_at rs i).place) (so.each a is.within) in
    let push = sym (told_push (derived_from (linked_at rs a).place (take i rs)) (linked_at rs i)) in
    let now = ap told (sym (more_true rs i (linked_at rs a).place l test)) in
    subst (λ (j : ℕ). get_or (set derived a (with_one (get_or derived a Nothing) (linked_at rs i).place)) j Nothing ≡ told (derived_from (linked_at rs j).place (take (i + 1) rs))) (sym e) (here ∙ was ∙ push ∙ now)
counted_one rs i a k derived order l so is m (inr apart) =
    let differ : (linked_at rs a).place ≡ (linked_at rs k).place → ⊥ = λ e. apart (sym (one_index rs order a k is.within m e)) in
    let test : names_older (linked_at rs k).place (linked_at rs i) ≡ false = ap (is_place (linked_at rs k).place) is.named ∙ is_other (linked_at rs a).place (linked_at rs k).place differ in
    get_or-set_other derived a k (with_one (get_or derived a Nothing) (linked_at rs i).place) Nothing apart ∙ so.each k m ∙ ap told (sym (more_false rs i (linked_at rs k).place l test))

pub counted_more : (rs : List Linked) (olders : List (Option ℕ)) (i : ℕ) (derived : List Derived) → InPlaceOrder rs → AreOlders rs olders → i < length rs → AreDerived rs i derived
    → AreDerived rs (i + 1) (counted (get_or olders i None) (linked_at rs i).place derived)
counted_more rs olders i derived order are l so = by (get_or olders i None) (are.each i l)
  where
    by : (o : Option ℕ) → OlderIs rs (linked_at rs i) o → AreDerived rs (i + 1) (counted o (linked_at rs i).place derived)
    by None is = record {
      len = so.len;
      each = λ k m. so.each k m ∙ ap told (sym (more_false rs i (linked_at rs k).place l (ap (is_place (linked_at rs k).place) is)));
    }
    by (Some a) is = record {
      len = length-set derived a (with_one (get_or derived a Nothing) (linked_at rs i).place) ∙ so.len;
      each = λ k m. counted_one rs i a k derived order l so is m (cases_eq k a);
    }

pub none_counted : (rs : List Linked) (derived : List Derived) → derived ≡ replicate (length rs) Nothing → AreDerived rs 0 derived
none_counted rs derived e = subst (AreDerived rs 0) (sym e) (record {
  len = length-replicate (length rs) Nothing;
  each = λ k l. get_or-replicate (length rs) k Nothing Nothing l;
})

-- of all records
pub told_of_all : (rs : List Linked) (derived : List Derived) (k : ℕ) → AreDerived rs (length rs) derived → k < length rs → get_or derived k Nothing ≡ told (derived_from (linked_at rs k).place rs)
told_of_all rs derived k so l = so.each k l ∙ ap (λ (all : List Linked). told (derived_from (linked_at rs k).place all)) (take_all (length rs) rs (omega arith))

-- as a step of the loop reads it
pub counted_step : (rs : List Linked) (olders : List (Option ℕ)) (i : ℕ) (derived now : List Derived) (d : Option ℕ) (e : Linked) → InPlaceOrder rs → AreOlders rs olders → i < length rs → AreDerived rs i derived
    → now ≡ counted (get_or olders i d) (get_or rs i e).place derived → AreDerived rs (i + 1) now
counted_step rs olders i derived now d e order are l so is =
    let older : get_or olders i d ≡ get_or olders i None = get_or_default olders i d None (omega (arith, are.len, l)) in
    let here : get_or rs i e ≡ linked_at rs i = get_or_default rs i e (linked_at [] 0) l in
    subst (AreDerived rs (i + 1)) (sym (is ∙ ap (λ (o : Option ℕ). counted o (get_or rs i e).place derived) older ∙ ap (λ (r : Linked). counted (get_or olders i None) r.place derived) here)) (counted_more rs olders i derived order are l so)

pub counted_all : (rs : List Linked) (n : ℕ) (derived : List Derived) → length rs ≤ n → AreDerived rs n derived → AreDerived rs (length rs) derived
counted_all rs n derived high so = record {
  len = so.len;
  each = λ k l. so.each k l ∙ ap (λ (all : List Linked). told (derived_from (linked_at rs k).place all)) (take_all n rs high ∙ sym (take_all (length rs) rs (omega arith)));
}

-- what a test of one newer place says
pub newer_tested : (rs : List Linked) (derived : List Derived) (k : ℕ) (d : Derived) (e : Linked) (good : Bool) → AreDerived rs (length rs) derived → k < length rs
    → ((from : List Linked) → get_or derived k d ≡ told from → (good ≡ true) ↔ NewerIs (get_or rs k e).head.state from (get_or rs k e).head.newer) → (good ≡ true) ↔ HasNewer rs k
newer_tested rs derived k d e good so l test =
    let here : get_or rs k e ≡ linked_at rs k = get_or_default rs k e (linked_at [] 0) l in
    let what : get_or derived k d ≡ told (derived_from (linked_at rs k).place rs) = get_or_default derived k d Nothing (omega (arith, so.len, l)) ∙ told_of_all rs derived k so l in
    subst (λ (r : Linked). (good ≡ true) ↔ NewerIs r.head.state (derived_from (linked_at rs k).place rs) r.head.newer) here (test (derived_from (linked_at rs k).place rs) what)

pub newer_more : (rs : List Linked) (i : ℕ) → ((k : ℕ) → k < i → HasNewer rs k) → HasNewer rs i → (k : ℕ) → k < i + 1 → HasNewer rs k
newer_more rs i so here = below_more (HasNewer rs) i so here
