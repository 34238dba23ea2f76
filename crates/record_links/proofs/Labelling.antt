-- Labels that follow older ones, read at the places of records.
use Rattle.std.proofs.Common.{◌≡◌, ◌<◌, ℕ, zero, suc, List, [], ◌∷◌, length, get_or, Option, Some, None, refl, sym, ap, ◌∙◌, arith, Contains}
use Rattle.std.proofs.lemmas.Bool.{cond-true, cond-false}
use Rattle.std.proofs.lemmas.Option.{none-some, same_Some}
use Rattle.ex_base.specs.declared.names.Place.{Place}
use Rattle.record_links.specs.declared.Linked.{Linked}
use Rattle.record_links.specs.Links.{InPlaceOrder, same_place}
use Rattle.record_links.specs.Labels.{AreLabels, label_at}
use Rattle.record_links.specs.Found.{linked_at, OlderIs, AreOlders, AreFollowed}
use Rattle.record_links.proofs.PlaceOrder.{is_same, is_other, before_differs, first_before, rest_in_order, one_index, at_index}

pub label_here : (rs : List Linked) (labels : List ℕ) (k : ℕ) → InPlaceOrder rs → length labels ≡ length rs → k < length rs → label_at rs labels (linked_at rs k).place ≡ get_or labels k 0
label_here [] labels k order len l = absurd (omega arith)
label_here (r ∷ rs) [] k order len l = absurd (omega arith)
label_here (r ∷ rs) (label ∷ labels) zero order len l = cond-true (same_place r.place r.place) label (label_at rs labels r.place) (is_same r.place r.place refl)
label_here (r ∷ rs) (label ∷ labels) (suc k) order len l =
    let place : Place = (linked_at rs k).place in
    let other = is_other r.place place (before_differs r.place place (first_before r rs order k (linked_at [] 0) (omega arith))) in
    cond-false (same_place r.place place) label (label_at rs labels place) other ∙ label_here rs labels k (rest_in_order r rs order) (omega arith) (omega arith)

-- of a record among these
pub label_of : (rs : List Linked) (labels : List ℕ) (r : Linked) (is : Contains rs r) → InPlaceOrder rs → length labels ≡ length rs → label_at rs labels r.place ≡ get_or labels is.0 0
label_of rs labels r is order len = ap (λ (s : Linked). label_at rs labels s.place) (sym (at_index rs r is)) ∙ label_here rs labels is.0 order len is.1

-- ---- the index of an older one

pub no_older : (rs : List Linked) (olders : List (Option ℕ)) (k : ℕ) → AreOlders rs olders → k < length rs → (linked_at rs k).head.older ≡ None → get_or olders k None ≡ None
no_older rs olders k are l none = by (get_or olders k None) refl (are.each k l)
  where
    by : (o : Option ℕ) → get_or olders k None ≡ o → OlderIs rs (linked_at rs k) o → get_or olders k None ≡ None
    by None e is = e
    by (Some a) e is = absurd (none-some _ (sym none ∙ is.named))

pub older_index : (rs : List Linked) (olders : List (Option ℕ)) (j k : ℕ) → InPlaceOrder rs → AreOlders rs olders → j < length rs → k < length rs
    → (linked_at rs k).head.older ≡ Some (linked_at rs j).place → get_or olders k None ≡ Some j
older_index rs olders j k order are m l named = by (get_or olders k None) refl (are.each k l)
  where
    by : (o : Option ℕ) → get_or olders k None ≡ o → OlderIs rs (linked_at rs k) o → get_or olders k None ≡ Some j
    by None e is = absurd (none-some _ (sym is ∙ named))
    by (Some a) e is = e ∙ ap Some (one_index rs order a j is.within m (same_Some _ _ (sym is.named ∙ named)))

-- ---- labels that follow them

pub followed_labels : (rs : List Linked) (olders : List (Option ℕ)) (labels : List ℕ) → InPlaceOrder rs → AreOlders rs olders → AreFollowed olders labels → AreLabels rs labels
followed_labels rs olders labels order are follow = record { len = same; within = λ k l. omega (arith, follow.own.within k (omega (arith, l, are.len)), are.len); objects = record { joined = joined; one_first = one_first } }
  where
    same : length labels ≡ length rs
    same = follow.own.len ∙ are.len

    here : (r : Linked) (is : Contains rs r) → label_at rs labels r.place ≡ get_or labels is.0 0
    here r is = label_of rs labels r is order same

    joined : (r older : Linked) → Contains rs r → Contains rs older → r.head.older ≡ Some older.place → label_at rs labels r.place ≡ label_at rs labels older.place
    joined r older is there named =
        let at = at_index rs r is in
        let from = at_index rs older there in
        let index = older_index rs olders there.0 is.0 order are there.1 is.1 (ap (λ (s : Linked). s.head.older) at ∙ named ∙ ap (λ (s : Linked). Some s.place) (sym from)) in
        here r is ∙ follow.each is.0 (omega (arith, are.len, is.1)) there.0 index ∙ sym (here older there)

    own : (r : Linked) (is : Contains rs r) → r.head.older ≡ None → get_or labels is.0 0 ≡ is.0
    own r is none = follow.own.own is.0 (omega (arith, are.len, is.1)) (no_older rs olders is.0 are is.1 (ap (λ (s : Linked). s.head.older) (at_index rs r is) ∙ none))

    one_first : (r s : Linked) → Contains rs r → Contains rs s → r.head.older ≡ None → s.head.older ≡ None → label_at rs labels r.place ≡ label_at rs labels s.place → r.place ≡ s.place
    one_first r s is there none none_too e =
        let index : is.0 ≡ there.0 = sym (own r is none) ∙ sym (here r is) ∙ e ∙ here s there ∙ own s there none_too in
        ap (λ (t : Linked). t.place) (sym (at_index rs r is)) ∙ ap (λ (k : ℕ). (linked_at rs k).place) index ∙ ap (λ (t : Linked). t.place) (at_index rs s there)
