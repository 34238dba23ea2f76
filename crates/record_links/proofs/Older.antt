-- What is found at older places, and what it says of links.
use Rattle.std.proofs.Common.{◌≡◌, ◌<◌, ◌≤◌, ◌+◌, ◌^◌, ℕ, List, [], ◌∷◌, ◌++◌, length, get_or, Option, Some, None, IfSome, refl, sym, ap, subst, ◌∙◌, arith, below_more, Contains}
use Rattle.std.proofs.lemmas.Option.{MatchOption-at_some}
use Rattle.std.proofs.lemmas.List.{get_or_default, get_or_append_left, get_or_push, length_push}
use Rattle.std.proofs.lemmas.List.Elements.{Contains-get_or, recursion_from_All}
use Rattle.ex_base.specs.declared.names.Place.{Place}
use Rattle.record_links.specs.declared.Linked.{Linked}
use Rattle.record_links.specs.Links.{InPlaceOrder, IsOlder, IsLinked, AreLinked}
use Rattle.record_links.specs.Found.{linked_at, MayBeFrom, IsFrom, OlderIs, AreOlders, HasNewer}
use Rattle.record_links.proofs.PlaceOrder.{one_index, at_index}
use Rattle.record_links.proofs.Alike.{linked_one}

pub older_from : (rs : List Linked) (r : Linked) (o : Option ℕ) → OlderIs rs r o → IfSome r.head.older (IsOlder rs r)
older_from rs r None is = subst (λ (p : Option Place). IfSome p (IsOlder rs r)) (sym is) tt
older_from rs r (Some a) is = subst (λ (p : Option Place). IfSome p (IsOlder rs r)) (sym is.named) (record {
  older = linked_at rs a;
  there = Contains-get_or rs a (linked_at [] 0) is.within;
  place_is = refl;
  frozen = is.may.frozen;
  lower = is.may.lower;
})

-- no record stands at the place that is named
pub none_there : (rs : List Linked) (r : Linked) (place : Place) → r.head.older ≡ Some place → ((s : Linked) → Contains rs s → s.place ≡ place → ⊥) → IfSome r.head.older (IsOlder rs r) → ⊥
none_there rs r place named none is =
    let o : IsOlder rs r place = MatchOption-at_some (Unit {0}) (IsOlder rs r) place named is in
    none o.older o.there o.place_is

-- the one that stands there may not be named
pub may_not : (rs : List Linked) (r : Linked) (place : Place) (at : ℕ) (d : Linked) → InPlaceOrder rs → r.head.older ≡ Some place → at < length rs → (linked_at rs at).place ≡ place
    → (MayBeFrom r (get_or rs at d) → ⊥) → IfSome r.head.older (IsOlder rs r) → ⊥
may_not rs r place at d order named l here not is =
    let o : IsOlder rs r place = MatchOption-at_some (Unit {0}) (IsOlder rs r) place named is in
    let index : o.there.0 ≡ at = one_index rs order o.there.0 at o.there.1 l (ap (λ (s : Linked). s.place) (at_index rs o.older o.there) ∙ o.place_is ∙ sym here) in
    let same : o.older ≡ get_or rs at d = sym (at_index rs o.older o.there) ∙ ap (linked_at rs) index ∙ get_or_default rs at (linked_at [] 0) d l in
    not (subst (MayBeFrom r) same (record { frozen = o.frozen; lower = o.lower }))

-- it may
pub from_found : (rs : List Linked) (r : Linked) (place : Place) (at : ℕ) (d : Linked) → r.head.older ≡ Some place → at < length rs → (linked_at rs at).place ≡ place
    → MayBeFrom r (get_or rs at d) → (get_or rs at d).head.unique < 2 ^ 64 → IsFrom rs r at
from_found rs r place at d named l here may small =
    let same : get_or rs at d ≡ linked_at rs at = get_or_default rs at d (linked_at [] 0) l in
    record {
      within = l;
      named = named ∙ ap Some (sym here);
      may = subst (MayBeFrom r) same may;
      small = subst (λ (s : Linked). s.head.unique < 2 ^ 64) same small;
    }

-- ---- one after the other

-- the older ones of the first n records
pub record FoundTo (rs : List Linked) (n : ℕ) (olders : List (Option ℕ)) : Type 0 where
  pub within : n ≤ length rs
  pub len : length olders ≡ n
  pub each : (k : ℕ) → k < n → OlderIs rs (linked_at rs k) (get_or olders k None)

pub found_none : (rs : List Linked) (olders : List (Option ℕ)) → olders ≡ [] → FoundTo rs 0 olders
found_none rs olders e = record { within = omega arith; len = ap length e; each = λ k l. absurd (omega arith) }

pub found_more : (rs : List Linked) (n : ℕ) (olders now : List (Option ℕ)) (o : Option ℕ) (d : Linked) → n < length rs → FoundTo rs n olders → OlderIs rs (get_or rs n d) o → now ≡ olders ++ o ∷ [] → FoundTo rs (n + 1) now
found_more rs n olders now o d l so is e = subst (FoundTo rs (n + 1)) (sym e) (record {
  within = omega (arith, l);
  len = length_push olders o ∙ ap (λ (k : ℕ). k + 1) so.len;
  each = below_more (λ k. OlderIs rs (linked_at rs k) (get_or (olders ++ o ∷ []) k None)) n
      (λ k below. subst (OlderIs rs (linked_at rs k)) (sym (get_or_append_left olders (o ∷ []) None k (omega (arith, so.len, below)))) (so.each k below))
      (subst (OlderIs rs (linked_at rs n)) (sym (get_or_push olders o None n so.len)) (subst (λ (r : Linked). OlderIs rs r o) (get_or_default rs n d (linked_at [] 0) l) is));
})

pub found_all : (rs : List Linked) (n : ℕ) (olders : List (Option ℕ)) → length rs ≤ n → FoundTo rs n olders → AreOlders rs olders
found_all rs n olders high so = record { len = omega (arith, so.len, high, so.within); each = λ k l. so.each k (omega (arith, high, l)) }

pub older_here : (rs : List Linked) (k : ℕ) (d : Linked) → AreLinked rs → k < length rs → IfSome (get_or rs k d).head.older (IsOlder rs (get_or rs k d))
older_here rs k d are l = (linked_one rs (get_or rs k d) are (Contains-get_or rs k d l)).older

-- an index that is named is one of a record
pub older_within : (rs : List Linked) (olders : List (Option ℕ)) (k n : ℕ) (d : Option ℕ) → AreOlders rs olders → k < length rs → n ≡ length rs → IfSome (get_or olders k d) (λ a. a < n)
older_within rs olders k n d are l same = subst (λ (o : Option ℕ). IfSome o (λ a. a < n)) (get_or_default olders k None d (omega (arith, are.len, l))) (by (get_or olders k None) (are.each k l))
  where
    by : (o : Option ℕ) → OlderIs rs (linked_at rs k) o → IfSome o (λ a. a < n)
    by None is = tt
    by (Some a) is = let below : a < n = omega (arith, is.within, same) in below

-- ---- all links

pub linked_all : (rs : List Linked) (olders : List (Option ℕ)) → AreOlders rs olders → ((k : ℕ) → k < length rs → HasNewer rs k) → AreLinked rs
linked_all rs olders are newer = recursion_from_All (IsLinked rs) rs (λ k d l. subst (IsLinked rs) (get_or_default rs k (linked_at [] 0) d l) (record {
  older = older_from rs (linked_at rs k) (get_or olders k None) (are.each k l);
  newer = newer k l;
}))

pub linked_here : (rs : List Linked) (k : ℕ) → AreLinked rs → k < length rs → IsLinked rs (linked_at rs k)
linked_here rs k are l = linked_one rs (linked_at rs k) are (Contains-get_or rs k (linked_at [] 0) l)

pub newer_here : (rs : List Linked) → AreLinked rs → (k : ℕ) → k < length rs → HasNewer rs k
newer_here rs are k l = (linked_here rs k are l).newer
