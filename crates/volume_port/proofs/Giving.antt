-- What a port that gives trees up keeps.
use Rattle.std.proofs.Common.{◌≡◌, ◌∙◌, ◌≤◌, inl, inr, ℕ, Bool, true, false, List, nat_eq, refl, sym, ap, arith, eqb-true, eq-eqb}
use Rattle.std.specs.Borrow.{MutBor}
use Rattle.std.proofs.lemmas.Bool.{both_ways, cases_Bool, cond-false, cond-true}
use Rattle.ex_base.specs.declared.geometry.Geometry.{Geometry}
use Rattle.disk_model.specs.Outside.{Outside}
use Rattle.disk_model.specs.Runs.{reads_refl}
use Rattle.buffer_groups.specs.Frames.{Frames}
use Rattle.page_alloc.specs.UnitSet.{UnitSet, updated, used_at, refs_at}
use Rattle.tree_store.specs.Stored.{IsCounted}
use Rattle.tree_store.proofs.Taking.{counts_frees, updated_here, updated_other}
use Rattle.volume_port.specs.Giving.{GivesUp, is_logged, tree_refs}
use Rattle.volume_port.specs.Logged.{LoggedSet}

-- ---- the references of the units of trees

module _ (pages : LoggedSet) (kept : List Bool) (units : UnitSet) (page : ℕ) where
  pub no_refs_of_logged : is_logged pages kept page ≡ true → tree_refs pages kept units page ≡ 0
  no_refs_of_logged is = cond-true (is_logged pages kept page) 0 (refs_at units page) is

  pub refs_of_other : is_logged pages kept page ≡ false → tree_refs pages kept units page ≡ refs_at units page
  refs_of_other is = cond-false (is_logged pages kept page) 0 (refs_at units page) is

  pub owned_by_tree : 1 ≤ tree_refs pages kept units page → 1 ≤ refs_at units page
  owned_by_tree some = elim (cases_Bool (is_logged pages kept page)) [
    | inl is ↦ absurd (omega (arith, some, no_refs_of_logged is))
    | inr not ↦ omega (arith, some, refs_of_other not)
  ]

  pub apart_from_logged : 1 ≤ tree_refs pages kept units page → is_logged pages kept page ≡ false
  apart_from_logged some = elim (cases_Bool (is_logged pages kept page)) [
    | inl is ↦ absurd (omega (arith, some, no_refs_of_logged is))
    | inr not ↦ not
  ]

-- where a unit's references are the same, so are those that it has as a unit of trees
pub same_tree_refs : (pages : LoggedSet) (kept : List Bool) (old new : UnitSet) (page : ℕ) → refs_at new page ≡ refs_at old page → tree_refs pages kept new page ≡ tree_refs pages kept old page
same_tree_refs pages kept old new page same = elim (cases_Bool (is_logged pages kept page)) [
  | inl is ↦ no_refs_of_logged pages kept new page is ∙ sym (no_refs_of_logged pages kept old page is)
  | inr not ↦ refs_of_other pages kept new page not ∙ same ∙ sym (refs_of_other pages kept old page not)
]

-- ---- the units' counts alone

-- nothing but the units changes, and of the used ones none becomes free but those of the set
pub counts_given : {D : Type 0} (outside : D → Outside) (freed : ℕ → Type 0) (d : MutBor D) (u v : MutBor UnitSet) (f : MutBor (List Frames)) (i : ℕ) (g : Geometry) (k : LoggedSet) (m : List Bool)
    → v.ghost_name ≡ u.ghost_name → ((p : ℕ) → used_at u.now p ≡ true → (freed p → ⊥) → used_at v.now p ≡ true) → ((p : ℕ) → used_at v.now p ≡ true → used_at u.now p ≡ true) → (IsCounted g u.now → IsCounted g v.now)
    → ((p : ℕ) → refs_at v.now p ≤ refs_at u.now p) → ((p : ℕ) → is_logged k m p ≡ true → freed p → ⊥)
    → GivesUp outside freed d d u v f f i i g g k k m m
counts_given outside freed d u v f i g k m units used fewer counted refs apart = record {
  store = counts_frees outside freed d u v f i g units used counted;
  only = reads_refl (outside d.now);
  told = λ is. is;
  fewer = fewer;
  refs = refs;
  pages = refl;
  kept = refl;
  logged = λ p held is. used p is (apart p held);
}

-- what is used after a unit was given back was used before
pub used_before : (used later : ℕ → Bool) (page : ℕ) → later ≡ updated used page false → (p : ℕ) → later p ≡ true → used p ≡ true
used_before used later page is p now = (elim (nat_eq p page) as (λ b. nat_eq p page ≡ b → used p ≡ true) [
  | true ↦ λ t. absurd (both_ways _ (ap (λ (f : ℕ → Bool). f p) is ∙ ap (updated used page false) (eqb-true p page t) ∙ updated_here used page false) now)
  | false ↦ λ t. sym (ap (λ (f : ℕ → Bool). f p) is ∙ updated_other used page false p (λ same. both_ways _ t (eq-eqb p page same))) ∙ now
]) refl

-- no count is higher after one was made lower
pub less_refs : (old new : ℕ → ℕ) (page less : ℕ) → new ≡ updated old page less → less ≤ old page → (p : ℕ) → new p ≤ old p
less_refs old new page less is le p = (elim (nat_eq p page) as (λ b. nat_eq p page ≡ b → new p ≤ old p) [
  | true ↦ λ t. omega (arith, ap (λ (f : ℕ → ℕ). f p) is ∙ ap (updated old page less) (eqb-true p page t) ∙ updated_here old page less, ap old (eqb-true p page t), le)
  | false ↦ λ t. omega (arith, ap (λ (f : ℕ → ℕ). f p) is ∙ updated_other old page less p (λ same. both_ways _ t (eq-eqb p page same)))
]) refl
