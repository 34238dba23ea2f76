-- Two ways to label linked records are alike: from each record older places lead to one that has none, and every label follows them.
use Rattle.std.proofs.Common.{◌≡◌, ◌<◌, ℕ, zero, suc, List, Option, Some, None, IfSome, get_or, refl, sym, ap, ◌∙◌, arith, Contains}
use Rattle.std.proofs.lemmas.Option.{MatchOption-at_some}
use Rattle.std.proofs.lemmas.List.Elements.{All-contains, All-from_recursion, Contains-get_or, recursion_from_All}
use Rattle.ex_base.specs.declared.names.Place.{Place}
use Rattle.object_records.specs.declared.State.TheVariants.{Frozen}
use Rattle.record_links.specs.declared.Linked.{Linked}
use Rattle.record_links.specs.Links.{IsOlder, IsLinked, HaveOlders, AreLinked}
use Rattle.record_links.specs.Labels.{LabelsObjects}

pub linked_one : (rs : List Linked) (r : Linked) → AreLinked rs → Contains rs r → IsLinked rs r
linked_one rs r are there = All-contains (IsLinked rs) rs r (All-from_recursion (IsLinked rs) rs are) there

abbrev Named : List Linked → Linked → Type 0
Named rs r = IfSome r.head.older (IsOlder rs r)

older_one : (rs : List Linked) (r : Linked) → HaveOlders rs → Contains rs r → IfSome r.head.older (IsOlder rs r)
older_one rs r are there = All-contains (Named rs) rs r (All-from_recursion (Named rs) rs are) there

pub linked_olders : (rs : List Linked) → AreLinked rs → HaveOlders rs
linked_olders rs are = recursion_from_All (Named rs) rs (λ k d l. (linked_one rs (get_or rs k d) are (Contains-get_or rs k d l)).older)

-- one without an older place that has the label of a record, however they are labelled
pub record HasFirst (rs : List Linked) (r : Linked) : Type 0 where
  pub first : Linked
  pub there : Contains rs first
  pub is : first.head.older ≡ None
  pub same : (label : Place → ℕ) → LabelsObjects rs label → label r.place ≡ label first.place

from_older : (rs : List Linked) (r : Linked) (place : Place) → Contains rs r → r.head.older ≡ Some place → (o : IsOlder rs r place) → HasFirst rs o.older → HasFirst rs r
from_older rs r place there named o found = record {
  first = found.first;
  there = found.there;
  is = found.is;
  same = λ label objects. objects.joined r o.older there o.there (named ∙ ap Some (sym o.place_is)) ∙ found.same label objects;
}

-- a step to the older one of a frozen record makes its number lower
frozen_first : (n : ℕ) (rs : List Linked) (r : Linked) → HaveOlders rs → Contains rs r → r.head.state ≡ Frozen → r.head.unique < n → HasFirst rs r
frozen_first zero rs r are there frozen low = absurd (omega arith)
frozen_first (suc n) rs r are there frozen low = by r.head.older refl (λ o of same l. frozen_first n rs o are of same l)
  where
    by : (older : Option Place) → r.head.older ≡ older → ((o : Linked) → Contains rs o → o.head.state ≡ Frozen → o.head.unique < n → HasFirst rs o) → HasFirst rs r
    by None is climb = record { first = r; there = there; is = is; same = λ label objects. refl }
    by (Some place) is climb =
        let o : IsOlder rs r place = MatchOption-at_some (Unit {0}) (IsOlder rs r) place is (older_one rs r are there) in
        let less : o.older.head.unique < r.head.unique = o.lower frozen in
        from_older rs r place there is o (climb o.older o.there o.frozen (omega (arith, less, low)))

pub has_first : (rs : List Linked) (r : Linked) → HaveOlders rs → Contains rs r → HasFirst rs r
has_first rs r are there = by r.head.older refl
  where
    by : (older : Option Place) → r.head.older ≡ older → HasFirst rs r
    by None is = record { first = r; there = there; is = is; same = λ label objects. refl }
    by (Some place) is =
        let o : IsOlder rs r place = MatchOption-at_some (Unit {0}) (IsOlder rs r) place is (older_one rs r are there) in
        from_older rs r place there is o (frozen_first (suc o.older.head.unique) rs o.older are o.there o.frozen (omega arith))

pub alike : (rs : List Linked) (one other : Place → ℕ) (r s : Linked) → HaveOlders rs → LabelsObjects rs one → LabelsObjects rs other
    → Contains rs r → Contains rs s → one r.place ≡ one s.place → other r.place ≡ other s.place
alike rs one other r s are a b there too same =
    let x = has_first rs r are there in
    let y = has_first rs s are too in
    let firsts : x.first.place ≡ y.first.place = a.one_first x.first y.first x.there y.there x.is y.is (sym (x.same one a) ∙ same ∙ y.same one a) in
    x.same other b ∙ ap other firsts ∙ sym (y.same other b)
