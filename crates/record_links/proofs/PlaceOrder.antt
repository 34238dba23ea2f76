-- Records in order of place: no two stand at one.
use Rattle.std.proofs.Common.{◌≡◌, ◌<◌, ◌≤◌, ◌+◌, ℕ, zero, suc, Bool, true, false, List, [], ◌∷◌, length, get_or, sym, ap, subst, ◌∙◌, arith, inl, inr, Contains}
use Rattle.std.specs.Prelude.{◌&&◌, ◌==◌}
use Rattle.std.proofs.lemmas.Bool.{eqb-true, eq-eqb, and_parts, cases_order, cases_lt, false_from_ne_true}
use Rattle.std.proofs.lemmas.List.{get_or_default}
use Rattle.ex_base.specs.declared.names.Place.{Place}
use Rattle.record_links.specs.declared.Linked.{Linked}
use Rattle.record_links.specs.Links.{IsBefore, InPlaceOrder, same_place}
use Rattle.record_links.specs.Found.{linked_at}

-- ---- two places

abbrev pub place_at : ℕ → ℕ → Place
place_at page slot = record { page = record { 0 = page }; slot = slot }

places_same : (a b : Place) → a.page.0 ≡ b.page.0 → a.slot ≡ b.slot → a ≡ b
places_same a b p s = ap (λ (n : ℕ). place_at n a.slot) p ∙ ap (place_at b.page.0) s

pub same_is : (a b : Place) → same_place a b ≡ true → a ≡ b
same_is a b is =
    let both = and_parts (a.page.0 == b.page.0) (a.slot == b.slot) is in
    places_same a b (eqb-true a.page.0 b.page.0 both.0) (eqb-true a.slot b.slot both.1)

pub is_same : (a b : Place) → a ≡ b → same_place a b ≡ true
is_same a b e =
    ap (λ (x : Bool). x && (a.slot == b.slot)) (eq-eqb a.page.0 b.page.0 (ap (λ (p : Place). p.page.0) e)) ∙ eq-eqb a.slot b.slot (ap (λ (p : Place). p.slot) e)

pub is_other : (a b : Place) → (a ≡ b → ⊥) → same_place a b ≡ false
is_other a b differ = false_from_ne_true (same_place a b) (λ is. differ (same_is a b is))

pub before_differs : (a b : Place) → IsBefore a b → a ≡ b → ⊥
before_differs a b (inl l) e = omega (arith, l, ap (λ (p : Place). p.page.0) e)
before_differs a b (inr l) e = omega (arith, l.1, ap (λ (p : Place). p.slot) e)

pub before_through : (a b c : Place) → IsBefore a b → IsBefore b c → IsBefore a c
before_through a b c (inl l) (inl m) = inl (omega arith)
before_through a b c (inl l) (inr m) = inl (omega (arith, m.0))
before_through a b c (inr l) (inl m) = inl (omega (arith, l.0))
before_through a b c (inr l) (inr m) = inr (l.0 ∙ m.0, omega (arith, l.1, m.1))

pub behind : (a b : Place) → (a ≡ b → ⊥) → (IsBefore a b → ⊥) → IsBefore b a
behind a b differ not = elim (cases_order a.page.0 b.page.0) [
  | inl e ↦ elim (cases_order a.slot b.slot) [
    | inl s ↦ absurd (differ (places_same a b e s))
    | inr s ↦ elim s [ inl l ↦ absurd (not (inr (e, l))) | inr m ↦ inr (sym e, m) ]
  ]
  | inr s ↦ elim s [ inl l ↦ absurd (not (inl l)) | inr m ↦ inl m ]
]

-- ---- records in order

pub rest_in_order : (r : Linked) (rs : List Linked) → InPlaceOrder (r ∷ rs) → InPlaceOrder rs
rest_in_order r [] order = tt
rest_in_order r (s ∷ rs) order = order.1

pub first_before : (r : Linked) (rs : List Linked) → InPlaceOrder (r ∷ rs) → (k : ℕ) (d : Linked) → k < length rs → IsBefore r.place (get_or rs k d).place
first_before r [] order k d l = absurd (omega arith)
first_before r (s ∷ rs) order zero d l = order.0
first_before r (s ∷ rs) order (suc k) d l = before_through r.place s.place (get_or rs k d).place order.0 (first_before s rs order.1 k d (omega arith))

pub places_rise : (rs : List Linked) → InPlaceOrder rs → (j k : ℕ) (d : Linked) → j < k → k < length rs → IsBefore (get_or rs j d).place (get_or rs k d).place
places_rise [] order j k d l m = absurd (omega arith)
places_rise (r ∷ rs) order j zero d l m = absurd (omega arith)
places_rise (r ∷ rs) order zero (suc k) d l m = first_before r rs order k d (omega arith)
places_rise (r ∷ rs) order (suc j) (suc k) d l m = places_rise rs (rest_in_order r rs order) j k d (omega arith) (omega arith)

-- two at one place have one index
pub one_index : (rs : List Linked) → InPlaceOrder rs → (j k : ℕ) → j < length rs → k < length rs → (linked_at rs j).place ≡ (linked_at rs k).place → j ≡ k
one_index rs order j k l m e = elim (cases_order j k) [
  | inl same ↦ same
  | inr apart ↦ elim apart [
    | inl below ↦ absurd (before_differs (linked_at rs j).place (linked_at rs k).place (places_rise rs order j k (linked_at [] 0) below m) e)
    | inr above ↦ absurd (before_differs (linked_at rs k).place (linked_at rs j).place (places_rise rs order k j (linked_at [] 0) above l) (sym e))
  ]
]

-- ---- records by their index

pub at_index : (rs : List Linked) (r : Linked) (is : Contains rs r) → linked_at rs is.0 ≡ r
at_index rs r is = get_or_default rs is.0 (linked_at [] 0) r is.1 ∙ is.2

-- ---- looking a place up

-- where the record at a place may be: behind those below one index, and before those from another one on
pub record LiesBetween (rs : List Linked) (place : Place) (from to : ℕ) : Type 0 where
  pub order : from ≤ to
  pub within : to ≤ length rs
  pub before : (k : ℕ) → k < from → IsBefore (linked_at rs k).place place
  pub above : (k : ℕ) → to ≤ k → k < length rs → IsBefore place (linked_at rs k).place

pub between_all : (rs : List Linked) (place : Place) → LiesBetween rs place 0 (length rs)
between_all rs place = record { order = omega arith; within = omega arith; before = λ k l. absurd (omega arith); above = λ k l m. absurd (omega arith) }

pub go_up : (rs : List Linked) (place : Place) (from to middle : ℕ) → InPlaceOrder rs → LiesBetween rs place from to → middle < to → IsBefore (linked_at rs middle).place place
    → LiesBetween rs place (middle + 1) to
go_up rs place from to middle order so m is = record {
  order = omega arith;
  within = so.within;
  before = λ k l. elim (cases_order k middle) [
    | inl same ↦ subst (λ (j : ℕ). IsBefore (linked_at rs j).place place) (sym same) is
    | inr apart ↦ elim apart [
      | inl below ↦ before_through (linked_at rs k).place (linked_at rs middle).place place (places_rise rs order k middle (linked_at [] 0) below (let within = so.within in omega arith)) is
      | inr over ↦ absurd (omega arith)
    ]
  ];
  above = so.above;
}

pub go_down : (rs : List Linked) (place : Place) (from to middle : ℕ) → InPlaceOrder rs → LiesBetween rs place from to → from ≤ middle → middle < to
    → IsBefore place (linked_at rs middle).place → LiesBetween rs place from middle
go_down rs place from to middle order so l m is = record {
  order = l;
  within = (let within = so.within in omega arith);
  before = so.before;
  above = λ k over n. elim (cases_order middle k) [
    | inl same ↦ subst (λ (j : ℕ). IsBefore place (linked_at rs j).place) same is
    | inr apart ↦ elim apart [
      | inl below ↦ before_through place (linked_at rs middle).place (linked_at rs k).place is (places_rise rs order middle k (linked_at [] 0) below n)
      | inr above ↦ absurd (omega arith)
    ]
  ];
}

pub none_between : (rs : List Linked) (place : Place) (from to : ℕ) → LiesBetween rs place from to → to ≤ from → (r : Linked) → Contains rs r → r.place ≡ place → ⊥
none_between rs place from to so ends r is e =
    let here : (linked_at rs is.0).place ≡ place = ap (λ (s : Linked). s.place) (at_index rs r is) ∙ e in
    elim (cases_lt is.0 from) [
      | inl l ↦ before_differs (linked_at rs is.0).place place (so.before is.0 l) here
      | inr l ↦ before_differs place (linked_at rs is.0).place (so.above is.0 (omega arith) is.1) (sym here)
    ]
