-- What a removal makes of versions that are linked.
use Rattle.std.proofs.Common.{◌≡◌, ℕ, ◌<◌, ◌≤◌, List, length, map, refl, ap, sym, subst, ◌∙◌, arith, Bool, true, false, cond, not, IfSome, Option, Some, None, inl, inr}
use Rattle.std.specs.Prelude.{filter, find}
use Rattle.std.proofs.lemmas.Bool.{eq-eqb, ne_eqb, false≢true, cond-true, cond-false, not-true, not_from_false, and_from, cases_eq}
use Rattle.std.proofs.lemmas.Option.{MatchOption-at_some, same_Some}
use Rattle.ex_base.specs.declared.names.Oid.{Oid}
use Rattle.version_lists.specs.declared.version.Version.{Version}
use Rattle.version_lists.specs.Versions.{unique_of, has_oid, is_derived_from, is_number, derived_from, IsOlder, IsLinked}
use Rattle.version_lists.specs.Changes.{older_instead, left_by, without_in, LeavesOne}
use Rattle.version_lists.proofs.Lists.{Has, has_contains, contains_has, has_map, has_map_from, has_filter, has_filter_from, rises_map, rises_filter, rises_one, rises_other, find_has}
use Rattle.version_lists.proofs.Links.{Linked, linked_from, older_of, one_derived, derived_has, number_from_oid, test_number}

pub has_own_oid : (v : Version) → has_oid v.oid v ≡ true
has_own_oid v = and_from _ _ (and_from _ _ (eq-eqb v.oid.page.0 v.oid.page.0 refl) (eq-eqb v.oid.slot v.oid.slot refl)) (eq-eqb v.oid.unique v.oid.unique refl)

instead_number : (gone v : Version) → unique_of (older_instead gone v) ≡ unique_of v
instead_number gone v = elim (is_derived_from (unique_of gone) v) as (λ b. unique_of (cond b (record v { older = gone.older }) v) ≡ unique_of v) [ true ↦ refl | false ↦ refl ]

instead_frozen : (gone v : Version) → (older_instead gone v).frozen ≡ v.frozen
instead_frozen gone v = elim (is_derived_from (unique_of gone) v) as (λ b. (cond b (record v { older = gone.older }) v).frozen ≡ v.frozen) [ true ↦ refl | false ↦ refl ]

pub instead_this : (gone v : Version) → v.older ≡ Some (unique_of gone) → older_instead gone v ≡ record v { older = gone.older }
instead_this gone v is = cond-true (is_derived_from (unique_of gone) v) (record v { older = gone.older }) v (ap (is_number (unique_of gone)) is ∙ eq-eqb (unique_of gone) (unique_of gone) refl)

pub instead_other : (gone v : Version) → is_derived_from (unique_of gone) v ≡ false → older_instead gone v ≡ v
instead_other gone v e = cond-false (is_derived_from (unique_of gone) v) (record v { older = gone.older }) v e

module _ (vs : List Version) (linked : Linked vs) (g : Version) (here : Has vs g)
    (leaves : g.frozen ≡ false → IfSome g.older (λ number. 2 ≤ length (derived_from number vs))) where
  abbrev left : List Version
  left = map (older_instead g) (filter (λ v. not (has_oid g.oid v)) vs)

  stays_in : (v : Version) → Has vs v → (unique_of v ≡ unique_of g → ⊥) → Has left (older_instead g v)
  stays_in v m other = has_map (older_instead g) (filter (λ v. not (has_oid g.oid v)) vs) v (has_filter (λ v. not (has_oid g.oid v)) vs v m (not_from_false (has_oid g.oid v) (unnamed (has_oid g.oid v) refl)))
    where
      unnamed : (b : Bool) → has_oid g.oid v ≡ b → has_oid g.oid v ≡ false
      unnamed true e = absurd (other (number_from_oid g.oid v e))
      unnamed false e = e

  older_kept : (v w : Version) (number : ℕ) → IsOlder vs v number → (number ≡ unique_of g → ⊥) → (w.frozen ≡ true → number < unique_of w) → IsOlder left w number
  older_kept v w number o other lower = record {
    older = older_instead g o.older;
    there = has_contains left (older_instead g o.older) (stays_in o.older (contains_has vs o.older o.there) (λ e. other (sym o.number_is ∙ e)));
    number_is = instead_number g o.older ∙ o.number_is;
    frozen = instead_frozen g o.older ∙ o.frozen;
    lower = lower;
  }

  abbrev DerivedIn : ℕ → Type 0
  DerivedIn number = (d : Version) × Has left d × (d.older ≡ Some number)

  -- what is derived from another version than the one that goes, and isn't that one
  derived_kept : (d : Version) (number : ℕ) → Has vs d → (unique_of d ≡ unique_of g → ⊥) → d.older ≡ Some number → (number ≡ unique_of g → ⊥) → DerivedIn number
  derived_kept d number m other is elsewhere =
      (older_instead g d, stays_in d m other, ap (λ (v : Version). v.older) (instead_other g d (ap (is_number (unique_of g)) is ∙ ne_eqb number (unique_of g) elsewhere)) ∙ is)

  -- from what the one that goes was derived: those that were derived from that, or the others
  derived_instead : (number : ℕ) → g.older ≡ Some number → (number ≡ unique_of g → ⊥) → (b : Bool) → g.frozen ≡ b → DerivedIn number
  derived_instead number is elsewhere true frozen =
      let e = one_derived vs g (linked.1 g here) frozen in
      let other : unique_of e.0 ≡ unique_of g → ⊥ = λ same. elsewhere (same_Some number (unique_of g) (sym is ∙ ap (λ (v : Version). v.older) (sym (rises_one unique_of vs e.0 g linked.0 e.1 here same)) ∙ e.2)) in
      (older_instead g e.0, stays_in e.0 e.1 other, ap (λ (v : Version). v.older) (instead_this g e.0 e.2) ∙ is)
  derived_instead number is elsewhere false current =
      let many = MatchOption-at_some (Unit {0}) (λ (n : ℕ). 2 ≤ length (derived_from n vs)) number is (leaves current) in
      let r = rises_other unique_of (derived_from number vs) (unique_of g) (rises_filter unique_of (is_derived_from number) vs linked.0) many in
      let d = derived_has vs number r.0 r.1 in
      derived_kept r.0 number d.0 r.2 d.1 elsewhere

  derived_left : (v : Version) → Has vs v → (unique_of v ≡ unique_of g → ⊥) → v.frozen ≡ true → DerivedIn (unique_of v)
  derived_left v m elsewhere frozen = let d = one_derived vs v (linked.1 v m) frozen in
      elim (cases_eq (unique_of d.0) (unique_of g)) [
        | inl same ↦ derived_instead (unique_of v) (ap (λ (w : Version). w.older) (sym (rises_one unique_of vs d.0 g linked.0 d.1 here same)) ∙ d.2) elsewhere g.frozen refl
        | inr other ↦ derived_kept d.0 (unique_of v) d.1 other d.2 elsewhere
      ]

  left_linked : (v : Version) → Has vs v → (unique_of v ≡ unique_of g → ⊥) → (b : Bool) → is_derived_from (unique_of g) v ≡ b → IsLinked left (older_instead g v)
  left_linked v m other true derived =
      subst (IsLinked left) (sym (instead_this g v is)) (linked_from left (record v { older = g.older }) under (derived_left v m other))
    where
      is : v.older ≡ Some (unique_of g)
      is = test_number (unique_of g) v.older derived

      under : (number : ℕ) → g.older ≡ Some number → IsOlder left (record v { older = g.older }) number
      under number e =
          let o = older_of vs v (unique_of g) (linked.1 v m) is in
          let same = rises_one unique_of vs o.older g linked.0 (contains_has vs o.older o.there) here o.number_is in
          let frozen = ap (λ (w : Version). w.frozen) (sym same) ∙ o.frozen in
          let og = older_of vs g number (linked.1 g here) e in
          let lower = og.lower frozen in
          older_kept g (record v { older = g.older }) number og (λ d. omega (arith, lower, d)) (λ f. let l = o.lower f in omega (arith, lower, l))
  left_linked v m other false elsewhere = subst (IsLinked left) (sym (instead_other g v elsewhere)) (linked_from left v under (derived_left v m other))
    where
      under : (number : ℕ) → v.older ≡ Some number → IsOlder left v number
      under number e =
          let o = older_of vs v number (linked.1 v m) e in
          older_kept v v number o (λ same. false≢true (sym elsewhere ∙ (ap (is_number (unique_of g)) e ∙ eq-eqb number (unique_of g) same))) o.lower

  all_left_linked : Linked left
  all_left_linked = (
    rises_map unique_of unique_of (older_instead g) (filter (λ v. not (has_oid g.oid v)) vs) (instead_number g) (rises_filter unique_of (λ v. not (has_oid g.oid v)) vs linked.0),
    each,
  )
    where
      each : (w : Version) → Has left w → IsLinked left w
      each w m =
          let r = has_map_from (older_instead g) (filter (λ v. not (has_oid g.oid v)) vs) w m in
          let k = has_filter_from (λ v. not (has_oid g.oid v)) vs r.0 r.1 in
          let other : unique_of r.0 ≡ unique_of g → ⊥ = λ same. false≢true (sym (not-true (has_oid g.oid r.0) k.1)
          ∙ (ap (has_oid g.oid) (rises_one unique_of vs r.0 g linked.0 k.0 here same) ∙ has_own_oid g)) in
          subst (IsLinked left) r.2 (left_linked r.0 k.0 other (is_derived_from (unique_of g) r.0) refl)

pub without_linked : (oid : Oid) (vs : List Version) → Linked vs → LeavesOne oid vs → Linked (without_in oid vs)
without_linked oid vs linked leaves = found (find (has_oid oid) vs) refl
  where
    found : (o : Option Version) → find (has_oid oid) vs ≡ o → Linked (without_in oid vs)
    found None e = subst Linked (sym (ap (λ o. left_by o vs) e)) linked
    found (Some g) e =
        let r = find_has (has_oid oid) vs g e in
        let asked = MatchOption-at_some (Unit {0}) (λ (v : Version). v.frozen ≡ false → IfSome v.older (λ number. 2 ≤ length (derived_from number vs))) g e leaves in
        subst Linked (sym (ap (λ o. left_by o vs) e)) (all_left_linked vs linked g r.0 asked)
