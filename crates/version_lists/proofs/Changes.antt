-- What the updates make of versions that are linked.
use Rattle.std.proofs.Common.{◌≡◌, ℕ, ◌<◌, List, [], ◌∷◌, ◌++◌, map, append-nil, refl, ap, sym, subst, ◌∙◌, Bool, true, false, cond, Option, Some, None, inl, inr}
use Rattle.std.specs.Prelude.{find}
use Rattle.std.proofs.lemmas.Bool.{false≢true, cond-true, cond-false}
use Rattle.std.proofs.lemmas.Option.{MatchOption-at_some, same_Some, none-some}
use Rattle.ex_base.specs.declared.names.Oid.{Oid}
use Rattle.version_lists.specs.declared.version.Version.{Version}
use Rattle.version_lists.specs.Versions.{unique_of, has_oid, IsOlder, IsLinked}
use Rattle.version_lists.specs.Changes.{new_version, created_in, bytes_changed, edited_in, moved_onto, frozen_copy, frozen_in, derived_copy, derived_in, left_by, without_in, NoneFrozen, NoneCurrent}
use Rattle.version_lists.proofs.Lists.{Has, has_contains, contains_has, has_map, has_map_from, has_front, has_back, has_either, filter_none, Rises, rises_map, rises_push, find_has, find_none}
use Rattle.version_lists.proofs.Links.{Linked, linked_from, linked_in_more, older_of, older_in_more, one_derived, only_one_has, filtered_by_oid}

-- ---- a new object, and an edit

pub created_linked : (oid : Oid) (vs : List Version) → Linked vs → ((v : Version) → Has vs v → unique_of v < oid.unique) → Linked (created_in oid vs)
created_linked oid vs linked below = (rises_push unique_of vs (new_version oid) linked.0 below, each)
  where
    each : (v : Version) → Has (created_in oid vs) v → IsLinked (created_in oid vs) v
    each v m = elim (has_either vs (new_version oid ∷ []) v m) [
      | inl a ↦ linked_in_more vs (created_in oid vs) v (has_front vs (new_version oid ∷ [])) (linked.1 v a)
      | inr b ↦ elim b [
        | inl e ↦ subst (IsLinked (created_in oid vs)) e (linked_from (created_in oid vs) (new_version oid) (λ number is. absurd (none-some number is)) (λ frozen. absurd (false≢true frozen)))
        | inr n ↦ absurd n
      ]
    ]

edit_number : (oid : Oid) (change : List ℕ → List ℕ) (v : Version) → unique_of (bytes_changed oid change v) ≡ unique_of v
edit_number oid change v = elim (has_oid oid v) as (λ b. unique_of (cond b (record v { bytes = change v.bytes }) v) ≡ unique_of v) [ true ↦ refl | false ↦ refl ]

edit_frozen : (oid : Oid) (change : List ℕ → List ℕ) (v : Version) → (bytes_changed oid change v).frozen ≡ v.frozen
edit_frozen oid change v = elim (has_oid oid v) as (λ b. (cond b (record v { bytes = change v.bytes }) v).frozen ≡ v.frozen) [ true ↦ refl | false ↦ refl ]

edit_older : (oid : Oid) (change : List ℕ → List ℕ) (v : Version) → (bytes_changed oid change v).older ≡ v.older
edit_older oid change v = elim (has_oid oid v) as (λ b. (cond b (record v { bytes = change v.bytes }) v).older ≡ v.older) [ true ↦ refl | false ↦ refl ]

-- a change that keeps numbers, frozenness and links
mapped_linked : (f : Version → Version) (vs : List Version) → ((v : Version) → unique_of (f v) ≡ unique_of v) → ((v : Version) → (f v).frozen ≡ v.frozen)
    → ((v : Version) → (f v).older ≡ v.older) → Linked vs → Linked (map f vs)
mapped_linked f vs number frozen older linked = (rises_map unique_of unique_of f vs number linked.0, each)
  where
    each_of : (v : Version) → Has vs v → IsLinked (map f vs) (f v)
    each_of v m = linked_from (map f vs) (f v) below above
      where
        below : (n : ℕ) → (f v).older ≡ Some n → IsOlder (map f vs) (f v) n
        below n is = let o = older_of vs v n (linked.1 v m) (sym (older v) ∙ is) in record {
          older = f o.older;
          there = has_contains (map f vs) (f o.older) (has_map f vs o.older (contains_has vs o.older o.there));
          number_is = number o.older ∙ o.number_is;
          frozen = frozen o.older ∙ o.frozen;
          lower = λ is_frozen. subst (λ k. n < k) (sym (number v)) (o.lower (sym (frozen v) ∙ is_frozen));
        }

        above : (f v).frozen ≡ true → (d : Version) × Has (map f vs) d × (d.older ≡ Some (unique_of (f v)))
        above is_frozen = let d = one_derived vs v (linked.1 v m) (sym (frozen v) ∙ is_frozen) in
            (f d.0, has_map f vs d.0 d.1, older d.0 ∙ d.2 ∙ ap Some (sym (number v)))

    each : (v : Version) → Has (map f vs) v → IsLinked (map f vs) v
    each v m = let r = has_map_from f vs v m in subst (IsLinked (map f vs)) r.2 (each_of r.0 r.1)

pub edited_linked : (oid : Oid) (change : List ℕ → List ℕ) (vs : List Version) → Linked vs → Linked (edited_in oid change vs)
edited_linked oid change vs linked = mapped_linked (bytes_changed oid change) vs (edit_number oid change) (edit_frozen oid change) (edit_older oid change) linked

-- ---- a frozen copy between a version and its older one

move_number : (oid : Oid) (number : ℕ) (v : Version) → unique_of (moved_onto oid number v) ≡ unique_of v
move_number oid number v = elim (has_oid oid v) as (λ b. unique_of (cond b (record v { older = Some number }) v) ≡ unique_of v) [ true ↦ refl | false ↦ refl ]

move_other : (oid : Oid) (number : ℕ) (v : Version) → has_oid oid v ≡ false → moved_onto oid number v ≡ v
move_other oid number v e = cond-false (has_oid oid v) (record v { older = Some number }) v e

move_this : (oid : Oid) (number : ℕ) (v : Version) → has_oid oid v ≡ true → moved_onto oid number v ≡ record v { older = Some number }
move_this oid number v e = cond-true (has_oid oid v) (record v { older = Some number }) v e

map_same : {A : Type 0} (f : A → A) (xs : List A) → ((x : A) → Has xs x → f x ≡ x) → map f xs ≡ xs
map_same f [] same = refl
map_same f (x ∷ xs) same = ap (λ y. y ∷ map f xs) (same x (inl refl)) ∙ ap (λ rest. x ∷ rest) (map_same f xs (λ y m. same y (inr m)))

-- ---- updates of a version that isn't among these, and of one that is

pub edited_absent : (oid : Oid) (change : List ℕ → List ℕ) (vs : List Version) → find (has_oid oid) vs ≡ None → edited_in oid change vs ≡ vs
edited_absent oid change vs e = map_same (bytes_changed oid change) vs (λ v m. cond-false (has_oid oid v) (record v { bytes = change v.bytes }) v (find_none (has_oid oid) vs e v m))

pub frozen_absent : (oid copy : Oid) (vs : List Version) → find (has_oid oid) vs ≡ None → frozen_in oid copy vs ≡ vs
frozen_absent oid copy vs e =
    let others = find_none (has_oid oid) vs e in
    ap (λ l. map (moved_onto oid copy.unique) vs ++ l) (ap (map (frozen_copy copy)) (filter_none (has_oid oid) vs others)) ∙ append-nil (map (moved_onto oid copy.unique) vs)
    ∙ map_same (moved_onto oid copy.unique) vs (λ v m. move_other oid copy.unique v (others v m))

pub frozen_present : (oid copy : Oid) (vs : List Version) (v : Version) → Rises unique_of vs → Has vs v → has_oid oid v ≡ true
    → frozen_in oid copy vs ≡ map (moved_onto oid copy.unique) vs ++ frozen_copy copy v ∷ []
frozen_present oid copy vs v up m is = ap (λ l. map (moved_onto oid copy.unique) vs ++ l) (ap (map (frozen_copy copy)) (filtered_by_oid oid vs v up m is))

pub derived_absent : (oid copy : Oid) (vs : List Version) → find (has_oid oid) vs ≡ None → derived_in oid copy vs ≡ vs
derived_absent oid copy vs e = ap (λ l. vs ++ l) (ap (map (derived_copy copy)) (filter_none (has_oid oid) vs (find_none (has_oid oid) vs e))) ∙ append-nil vs

pub derived_present : (oid copy : Oid) (vs : List Version) (v : Version) → Rises unique_of vs → Has vs v → has_oid oid v ≡ true
    → derived_in oid copy vs ≡ vs ++ derived_copy copy v ∷ []
derived_present oid copy vs v up m is = ap (λ l. vs ++ l) (ap (map (derived_copy copy)) (filtered_by_oid oid vs v up m is))

pub without_absent : (oid : Oid) (vs : List Version) → find (has_oid oid) vs ≡ None → without_in oid vs ≡ vs
without_absent oid vs e = ap (λ o. left_by o vs) e

-- ---- a frozen copy is linked

module _ (oid copy : Oid) (vs : List Version) (linked : Linked vs) (below : (v : Version) → Has vs v → unique_of v < copy.unique)
    (g : Version) (here : Has vs g) (is : has_oid oid g ≡ true) (current : g.frozen ≡ false) where
  abbrev with_copy : List Version
  with_copy = map (moved_onto oid copy.unique) vs ++ frozen_copy copy g ∷ []

  -- a frozen version is another one, and stays
  stays : (v : Version) → Has vs v → v.frozen ≡ true → has_oid oid v ≡ false
  stays v m frozen = other (has_oid oid v) refl
    where
      other : (b : Bool) → has_oid oid v ≡ b → has_oid oid v ≡ false
      other true e = absurd (false≢true (sym current ∙ ap (λ (w : Version). w.frozen) (only_one_has oid vs g v linked.0 here m is e) ∙ frozen))
      other false e = e

  has_other : (v : Version) → Has vs v → has_oid oid v ≡ false → Has with_copy v
  has_other v m e =
      has_front (map (moved_onto oid copy.unique) vs) (frozen_copy copy g ∷ []) v
      (subst (Has (map (moved_onto oid copy.unique) vs)) (move_other oid copy.unique v e) (has_map (moved_onto oid copy.unique) vs v m))

  has_copy : Has with_copy (frozen_copy copy g)
  has_copy = has_back (map (moved_onto oid copy.unique) vs) (frozen_copy copy g ∷ []) (frozen_copy copy g) (inl refl)

  has_moved : Has with_copy (record g { older = Some copy.unique })
  has_moved =
      has_front (map (moved_onto oid copy.unique) vs) (frozen_copy copy g ∷ []) (record g { older = Some copy.unique })
      (subst (Has (map (moved_onto oid copy.unique) vs)) (move_this oid copy.unique g is) (has_map (moved_onto oid copy.unique) vs g here))

  moved_linked : IsLinked with_copy (record g { older = Some copy.unique })
  moved_linked =
      linked_from with_copy (record g { older = Some copy.unique })
      (λ number e. record {
        older = frozen_copy copy g;
        there = has_contains with_copy (frozen_copy copy g) has_copy;
        number_is = same_Some copy.unique number e;
        frozen = refl;
        lower = λ frozen. absurd (false≢true (sym current ∙ frozen));
      }) (λ frozen. absurd (false≢true (sym current ∙ frozen)))

  copy_linked : IsLinked with_copy (frozen_copy copy g)
  copy_linked =
      linked_from with_copy (frozen_copy copy g) under
      (λ frozen. (record g { older = Some copy.unique }, has_moved, refl))
    where
      under : (number : ℕ) → g.older ≡ Some number → IsOlder with_copy (frozen_copy copy g) number
      under number e = let o = older_of vs g number (linked.1 g here) e in let m = contains_has vs o.older o.there in record {
        older = o.older;
        there = has_contains with_copy o.older (has_other o.older m (stays o.older m o.frozen));
        number_is = o.number_is;
        frozen = o.frozen;
        lower = λ frozen. subst (λ n. n < copy.unique) o.number_is (below o.older m);
      }

  other_linked : (v : Version) → Has vs v → IsLinked with_copy v
  other_linked v m =
      linked_from with_copy v
      (λ number e. older_in_more vs with_copy v number (λ x k frozen. has_other x k (stays x k frozen)) (older_of vs v number (linked.1 v m) e))
      above
    where
      above : v.frozen ≡ true → (d : Version) × Has with_copy d × (d.older ≡ Some (unique_of v))
      above frozen = let d = one_derived vs v (linked.1 v m) frozen in derived d.0 (has_oid oid d.0) refl d.1 d.2
        where
          derived : (d : Version) (b : Bool) → has_oid oid d ≡ b → Has vs d → d.older ≡ Some (unique_of v) → (e : Version) × Has with_copy e × (e.older ≡ Some (unique_of v))
          derived d true same k e = (frozen_copy copy g, has_copy, ap (λ (w : Version). w.older) (only_one_has oid vs g d linked.0 here k is same) ∙ e)
          derived d false other k e = (d, has_other d k other, e)

  with_copy_linked : Linked with_copy
  with_copy_linked = (rises_push unique_of (map (moved_onto oid copy.unique) vs) (frozen_copy copy g) rises above, each)
    where
      rises : Rises unique_of (map (moved_onto oid copy.unique) vs)
      rises = rises_map unique_of unique_of (moved_onto oid copy.unique) vs (move_number oid copy.unique) linked.0

      above : (v : Version) → Has (map (moved_onto oid copy.unique) vs) v → unique_of v < copy.unique
      above v m = let r = has_map_from (moved_onto oid copy.unique) vs v m in
          subst (λ n. n < copy.unique) (sym (move_number oid copy.unique r.0) ∙ ap unique_of r.2) (below r.0 r.1)

      front : (v : Version) → Has vs v → (b : Bool) → has_oid oid v ≡ b → IsLinked with_copy (moved_onto oid copy.unique v)
      front v m true e = subst (IsLinked with_copy) (sym (move_this oid copy.unique v e)) (subst (λ (w : Version). IsLinked with_copy (record w { older = Some copy.unique })) (only_one_has oid vs g v linked.0 here m is e) moved_linked)
      front v m false e = subst (IsLinked with_copy) (sym (move_other oid copy.unique v e)) (other_linked v m)

      each : (v : Version) → Has with_copy v → IsLinked with_copy v
      each v m = elim (has_either (map (moved_onto oid copy.unique) vs) (frozen_copy copy g ∷ []) v m) [
        | inl a ↦ let r = has_map_from (moved_onto oid copy.unique) vs v a in subst (IsLinked with_copy) r.2 (front r.0 r.1 (has_oid oid r.0) refl)
        | inr b ↦ elim b [ inl e ↦ subst (IsLinked with_copy) e copy_linked | inr n ↦ absurd n ]
      ]

pub frozen_linked : (oid copy : Oid) (vs : List Version) → Linked vs → NoneFrozen oid vs → ((v : Version) → Has vs v → unique_of v < copy.unique) → Linked (frozen_in oid copy vs)
frozen_linked oid copy vs linked none below = found (find (has_oid oid) vs) refl
  where
    found : (o : Option Version) → find (has_oid oid) vs ≡ o → Linked (frozen_in oid copy vs)
    found None e =
        subst Linked (sym (frozen_absent oid copy vs e)) linked
    found (Some g) e =
        let r = find_has (has_oid oid) vs g e in
        let current = MatchOption-at_some (Unit {0}) (λ (v : Version). v.frozen ≡ false) g e none in
        subst Linked (sym (frozen_present oid copy vs g linked.0 r.0 r.1)) (with_copy_linked oid copy vs linked below g r.0 r.1 current)

-- ---- a current copy that is derived

pub derived_linked : (oid copy : Oid) (vs : List Version) → Linked vs → NoneCurrent oid vs → ((v : Version) → Has vs v → unique_of v < copy.unique) → Linked (derived_in oid copy vs)
derived_linked oid copy vs linked none below = found (find (has_oid oid) vs) refl
  where
    with_one : (g : Version) → Has vs g → g.frozen ≡ true → Linked (vs ++ derived_copy copy g ∷ [])
    with_one g h frozen = (rises_push unique_of vs (derived_copy copy g) linked.0 below, each)
      where
        copied : IsLinked (vs ++ derived_copy copy g ∷ []) (derived_copy copy g)
        copied = linked_from (vs ++ derived_copy copy g ∷ []) (derived_copy copy g)
            (λ number e. record {
              older = g;
              there = has_contains (vs ++ derived_copy copy g ∷ []) g (has_front vs (derived_copy copy g ∷ []) g h);
              number_is = same_Some (unique_of g) number e;
              frozen = frozen;
              lower = λ is. absurd (false≢true is);
            }) (λ is. absurd (false≢true is))

        each : (v : Version) → Has (vs ++ derived_copy copy g ∷ []) v → IsLinked (vs ++ derived_copy copy g ∷ []) v
        each v m = elim (has_either vs (derived_copy copy g ∷ []) v m) [
          | inl a ↦ linked_in_more vs (vs ++ derived_copy copy g ∷ []) v (has_front vs (derived_copy copy g ∷ [])) (linked.1 v a)
          | inr b ↦ elim b [ inl e ↦ subst (IsLinked (vs ++ derived_copy copy g ∷ [])) e copied | inr n ↦ absurd n ]
        ]

    found : (o : Option Version) → find (has_oid oid) vs ≡ o → Linked (derived_in oid copy vs)
    found None e =
        subst Linked (sym (derived_absent oid copy vs e)) linked
    found (Some g) e =
        let r = find_has (has_oid oid) vs g e in
        let frozen = MatchOption-at_some (Unit {0}) (λ (v : Version). v.frozen ≡ true) g e none in
        subst Linked (sym (derived_present oid copy vs g linked.0 r.0 r.1)) (with_one g r.0 frozen)
