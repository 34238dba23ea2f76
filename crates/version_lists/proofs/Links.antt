-- Versions that are linked: the older one of each, and those that are derived from it.
use Rattle.std.proofs.Common.{◌≡◌, ℕ, List, [], ◌∷◌, refl, ap, sym, subst, ◌∙◌, true, IfSome, Option, Some, None, inl, inr}
use Rattle.std.specs.Prelude.{filter, find}
use Rattle.std.proofs.lemmas.Bool.{eqb-true, eq-eqb, and_parts, false≢true}
use Rattle.std.proofs.lemmas.Option.{MatchOption-at_some}
use Rattle.ex_base.specs.declared.names.Oid.{Oid}
use Rattle.version_lists.specs.declared.version.Version.{Version}
use Rattle.version_lists.specs.Versions.{unique_of, has_oid, is_derived_from, is_number, derived_from, IsOlder, IsLinked, AreLinked}
use Rattle.version_lists.proofs.Lists.{Has, has_contains, contains_has, all_has, has_all, has_filter, has_filter_from, has_length, length_has, Rises, rises_from, rises_to, rises_one, rises_filter, rising_agree, find_has, find_none}

pub if_some_from : {A : Type 0} (P : A → Type 0) (o : Option A) → ((x : A) → o ≡ Some x → P x) → IfSome o P
if_some_from P None h = tt
if_some_from P (Some x) h = h x refl

-- ---- versions derived from one

derived_test : (number : ℕ) (d : Version) → d.older ≡ Some number → is_derived_from number d ≡ true
derived_test number d is = ap (is_number number) is ∙ eq-eqb number number refl

pub test_number : (number : ℕ) (o : Option ℕ) → is_number number o ≡ true → o ≡ Some number
test_number number None is = absurd (false≢true is)
test_number number (Some n) is = ap Some (eqb-true n number is)

pub has_derived : (vs : List Version) (number : ℕ) (d : Version) → Has vs d → d.older ≡ Some number → Has (derived_from number vs) d
has_derived vs number d m is = has_filter (is_derived_from number) vs d m (derived_test number d is)

pub derived_has : (vs : List Version) (number : ℕ) (d : Version) → Has (derived_from number vs) d → Has vs d × (d.older ≡ Some number)
derived_has vs number d m = let r = has_filter_from (is_derived_from number) vs d m in (r.0, test_number number d.older r.1)

-- one that is derived from a frozen version
pub one_derived : (vs : List Version) (v : Version) → IsLinked vs v → v.frozen ≡ true → (d : Version) × Has vs d × (d.older ≡ Some (unique_of v))
one_derived vs v linked frozen =
    let r = length_has (derived_from (unique_of v) vs) (linked.derived frozen) in
    let d = derived_has vs (unique_of v) r.0 r.1 in
    (r.0, d.0, d.1)

pub older_of : (vs : List Version) (v : Version) (number : ℕ) → IsLinked vs v → v.older ≡ Some number → IsOlder vs v number
older_of vs v number linked is = MatchOption-at_some (Unit {0}) (IsOlder vs v) number is linked.older

pub linked_from : (vs : List Version) (v : Version) → ((number : ℕ) → v.older ≡ Some number → IsOlder vs v number)
    → (v.frozen ≡ true → (d : Version) × Has vs d × (d.older ≡ Some (unique_of v))) → IsLinked vs v
linked_from vs v older derived = record {
  older = if_some_from (IsOlder vs v) v.older older;
  derived = λ frozen. let r = derived frozen in has_length (derived_from (unique_of v) vs) r.0 (has_derived vs (unique_of v) r.0 r.1 r.2);
}

-- the same links among more versions
pub older_in_more : (vs ws : List Version) (v : Version) (number : ℕ) → ((x : Version) → Has vs x → x.frozen ≡ true → Has ws x) → IsOlder vs v number → IsOlder ws v number
older_in_more vs ws v number more o = record {
  older = o.older;
  there = has_contains ws o.older (more o.older (contains_has vs o.older o.there) o.frozen);
  number_is = o.number_is;
  frozen = o.frozen;
  lower = o.lower;
}

pub linked_in_more : (vs ws : List Version) (v : Version) → ((x : Version) → Has vs x → Has ws x) → IsLinked vs v → IsLinked ws v
linked_in_more vs ws v more linked =
    linked_from ws v (λ number is. older_in_more vs ws v number (λ x m frozen. more x m) (older_of vs v number linked is))
    (λ frozen. let d = one_derived vs v linked frozen in (d.0, more d.0 d.1, d.2))

-- ---- all of them

-- in the form that inductions use
abbrev pub Linked : List Version → Type 0
Linked vs = Rises unique_of vs × ((v : Version) → Has vs v → IsLinked vs v)

pub linked_all : (vs : List Version) → AreLinked vs → Linked vs
linked_all vs are = (rises_from unique_of vs are.rise, all_has (IsLinked vs) vs are.each)

pub all_linked : (vs : List Version) → Linked vs → AreLinked vs
all_linked vs linked = record { rise = rises_to unique_of vs linked.0; each = has_all (IsLinked vs) vs linked.1 }

-- ---- the version with an identifier

pub number_from_oid : (oid : Oid) (v : Version) → has_oid oid v ≡ true → unique_of v ≡ oid.unique
number_from_oid oid v is = eqb-true (unique_of v) oid.unique (and_parts _ _ is).1

pub only_one_has : (oid : Oid) (vs : List Version) (v w : Version) → Rises unique_of vs → Has vs v → Has vs w → has_oid oid v ≡ true → has_oid oid w ≡ true → v ≡ w
only_one_has oid vs v w up h k is same = rises_one unique_of vs v w up h k (number_from_oid oid v is ∙ sym (number_from_oid oid w same))

-- it is found by that, and nothing else passes
pub found_by_oid : (oid : Oid) (vs : List Version) (v : Version) → Rises unique_of vs → Has vs v → has_oid oid v ≡ true → find (has_oid oid) vs ≡ Some v
found_by_oid oid vs v up h is = found (find (has_oid oid) vs) refl
  where
    found : (o : Option Version) → find (has_oid oid) vs ≡ o → find (has_oid oid) vs ≡ Some v
    found None none = absurd (false≢true (sym (find_none (has_oid oid) vs none v h) ∙ is))
    found (Some w) some = let r = find_has (has_oid oid) vs w some in some ∙ ap Some (only_one_has oid vs w v up r.0 h r.1 is)

pub filtered_by_oid : (oid : Oid) (vs : List Version) (v : Version) → Rises unique_of vs → Has vs v → has_oid oid v ≡ true → filter (has_oid oid) vs ≡ v ∷ []
filtered_by_oid oid vs v up h is =
    rising_agree unique_of (filter (has_oid oid) vs) (v ∷ []) (rises_filter unique_of (has_oid oid) vs up) ((λ y m. absurd m), tt)
    (λ x m. let r = has_filter_from (has_oid oid) vs x m in inl (only_one_has oid vs v x up h r.0 is r.1)) back
  where
    back : (x : Version) → Has (v ∷ []) x → Has (filter (has_oid oid) vs) x
    back x (inl e) = subst (Has (filter (has_oid oid) vs)) e (has_filter (has_oid oid) vs v h is)
    back x (inr m) = absurd m
