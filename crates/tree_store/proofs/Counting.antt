-- The references that the names on a page make, one after the other.
use Rattle.std.proofs.Common.{◌≡◌, ◌≤◌, ◌+◌, ◌-◌, ℕ, Bool, true, false, cond, List, ◌∷◌, length, drop, Some, nat_eq, inl, inr, refl, sym, ap, subst, ◌∙◌, arith, eqb-true, eq-eqb, lt-ltb, le-ltb}
use Rattle.std.specs.Prelude.{slice_get}
use Rattle.std.proofs.lemmas.Bool.{cases_lt, both_ways}
use Rattle.std.proofs.lemmas.List.{drop_all}
use Rattle.std.proofs.lemmas.Option.{slice_get_within, get_or_from_slice_get}
use Rattle.ex_base.specs.declared.geometry.Geometry.{Geometry}
use Rattle.ex_base.specs.Area.{IsUnit}
use Rattle.ex_base.proofs.Lists.{drop_item}
use Rattle.ex_base.specs.Ports.{refs_most, times, with_ref, with_refs}
use Rattle.page_alloc.specs.UnitSet.{UnitSet, used_at, refs_at, updated}
use Rattle.tree_store.specs.Stored.{IsCounted}
use Rattle.tree_store.proofs.Taking.{recounted, updated_here, updated_other}

with_one_more : (b : Bool) (c k : ℕ) → with_refs b (with_ref b c) k ≡ with_refs b c (1 + k)
with_one_more false c k = refl
with_one_more true c k = elim (cases_lt c refs_most) [
  | inl lt ↦ rw (lt-ltb c refs_most lt) (omega arith)
  | inr ge ↦ rw (le-ltb c refs_most ge) (omega arith)
]

with_none : (b : Bool) (c : ℕ) → c ≤ refs_most → with_refs b c 0 ≡ c
with_none false c few = refl
with_none true c few = omega (arith, few)

with_ref_few : (b : Bool) (c : ℕ) → c ≤ refs_most → with_ref b c ≤ refs_most
with_ref_few false c few = few
with_ref_few true c few = elim (cases_lt c refs_most) [
  | inl lt ↦ rw (lt-ltb c refs_most lt) (omega (arith, lt))
  | inr ge ↦ rw (le-ltb c refs_most ge) few
]

pub one_more_counted : (g : Geometry) (u v : UnitSet) (p : ℕ) → v.geometry ≡ u.geometry → used_at v ≡ used_at u → refs_at v ≡ updated (refs_at u) p (with_ref (used_at u p) (refs_at u p)) → IsCounted g u → IsCounted g v
one_more_counted g u v p geometry used refs counted =
    recounted g u v p (with_ref (used_at u p) (refs_at u p)) geometry used refs (with_ref_few (used_at u p) (refs_at u p) (counted.few p)) (only_used (used_at u p) (refs_at u p) (counted.owned p)) counted
  where
    only_used : (b : Bool) (c : ℕ) → (1 ≤ c → b ≡ true) → 1 ≤ with_ref b c → b ≡ true
    only_used true c owned some = refl
    only_used false c owned some = owned some

-- what the loop over the names keeps: the names that are left add to the counts what all add to the first ones
pub record CountedSoFar (g : Geometry) (names : List ℕ) (before : UnitSet) (done : ℕ) (now : UnitSet) : Type 0 where
  pub counted : IsCounted g now
  pub used : used_at now ≡ used_at before
  pub refs : (p : ℕ) → with_refs (used_at before p) (refs_at now p) (times p (drop done names)) ≡ with_refs (used_at before p) (refs_at before p) (times p names)

-- the names that are left begin with the next one
names_next : (names : List ℕ) (done page : ℕ) → slice_get names done ≡ Some page → drop done names ≡ page ∷ drop (done + 1) names
names_next names done page is = drop_item names done page (slice_get_within names done page is) (sym (get_or_from_slice_get names done page page is))

-- a reference more, and a name less
ref_moved : (used : ℕ → Bool) (refs : ℕ → ℕ) (page p k : ℕ)
    → with_refs (used p) (updated refs page (with_ref (used page) (refs page)) p) k ≡ with_refs (used p) (refs p) ((cond (nat_eq page p) 1 0) + k)
ref_moved used refs page p k = (elim (nat_eq page p) as (λ b. nat_eq page p ≡ b → with_refs (used p) (updated refs page (with_ref (used page) (refs page)) p) k ≡ with_refs (used p) (refs p) ((cond b 1 0) + k)) [
  | true ↦ λ t.
      let same : p ≡ page = sym (eqb-true page p t) in
      subst (λ q. with_refs (used q) (updated refs page (with_ref (used page) (refs page)) q) k ≡ with_refs (used q) (refs q) (1 + k)) (sym same)
      (ap (λ c. with_refs (used page) c k) (updated_here refs page (with_ref (used page) (refs page))) ∙ with_one_more (used page) (refs page) k)
  | false ↦ λ t.
      let none : 0 + k ≡ k = omega arith in
      ap (λ c. with_refs (used p) c k) (updated_other refs page (with_ref (used page) (refs page)) p (λ same. both_ways _ t (eq-eqb page p (sym same)))) ∙ ap (with_refs (used p) (refs p)) (sym none)
]) refl

-- a name that counts nothing
name_skipped : (used : ℕ → Bool) (refs : ℕ → ℕ) (page p k : ℕ) → used page ≡ false → with_refs (used p) (refs p) k ≡ with_refs (used p) (refs p) ((cond (nat_eq page p) 1 0) + k)
name_skipped used refs page p k free = (elim (nat_eq page p) as (λ b. nat_eq page p ≡ b → with_refs (used p) (refs p) k ≡ with_refs (used p) (refs p) ((cond b 1 0) + k)) [
  | true ↦ λ t. let here : used p ≡ false = ap used (sym (eqb-true page p t)) ∙ free in rw here refl
  | false ↦ λ t. let none : 0 + k ≡ k = omega arith in ap (with_refs (used p) (refs p)) (sym none)
]) refl

not_used : (g : Geometry) (u : UnitSet) (p : ℕ) → IsCounted g u → (IsUnit g p → ⊥) → used_at u p ≡ false
not_used g u p counted none = (elim (used_at u p) as (λ b. used_at u p ≡ b → b ≡ false) [ true ↦ λ t. absurd (none (counted.named p t)) | false ↦ λ t. refl ]) refl

pub counted_one : (g : Geometry) (names : List ℕ) (before now next : UnitSet) (done page : ℕ) → CountedSoFar g names before done now → slice_get names done ≡ Some page
    → next.geometry ≡ now.geometry → used_at next ≡ used_at now → refs_at next ≡ updated (refs_at now) page (with_ref (used_at now page) (refs_at now page)) → CountedSoFar g names before (done + 1) next
counted_one g names before now next done page so_far is geometry used refs = record {
  counted = one_more_counted g now next page geometry used refs so_far.counted;
  used = used ∙ so_far.used;
  refs = λ p.
      let rest = times p (drop (done + 1) names) in
      ap (λ (f : ℕ → ℕ). with_refs (used_at before p) (f p) rest) (refs ∙ ap (λ (w : ℕ → Bool). updated (refs_at now) page (with_ref (w page) (refs_at now page))) so_far.used)
      ∙ ref_moved (used_at before) (refs_at now) page p rest
      ∙ ap (λ (l : List ℕ). with_refs (used_at before p) (refs_at now p) (times p l)) (sym (names_next names done page is))
      ∙ so_far.refs p;
}

pub counted_skip : (g : Geometry) (names : List ℕ) (before now : UnitSet) (done page : ℕ) → CountedSoFar g names before done now → slice_get names done ≡ Some page
    → (IsUnit g page → ⊥) → CountedSoFar g names before (done + 1) now
counted_skip g names before now done page so_far is none = record {
  counted = so_far.counted;
  used = so_far.used;
  refs = λ p.
      let rest = times p (drop (done + 1) names) in
      name_skipped (used_at before) (refs_at now) page p rest (ap (λ (f : ℕ → Bool). f page) (sym so_far.used) ∙ not_used g now page so_far.counted none)
      ∙ ap (λ (l : List ℕ). with_refs (used_at before p) (refs_at now p) (times p l)) (sym (names_next names done page is))
      ∙ so_far.refs p;
}

pub counted_all : (g : Geometry) (names : List ℕ) (before now : UnitSet) (done : ℕ) → CountedSoFar g names before done now → length names ≤ done
    → (p : ℕ) → refs_at now p ≡ with_refs (used_at before p) (refs_at before p) (times p names)
counted_all g names before now done so_far end p =
    sym (with_none (used_at before p) (refs_at now p) (so_far.counted.few p))
    ∙ ap (λ (l : List ℕ). with_refs (used_at before p) (refs_at now p) (times p l)) (sym (drop_all done names end))
    ∙ so_far.refs p
