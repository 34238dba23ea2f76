-- The numbers of used units name units.
use Rattle.std.proofs.Common.{◌≡◌, ◌≤◌, ◌<◌, ◌-◌, ◌/◌, ◌%◌, ⊎_elim, inl, inr, ℕ, Bool, true, false, true≢false, cond, eqb, List, length, get_or, sym, ap, subst, ◌∙◌, arith}
use Rattle.std.proofs.lemmas.Bool.{cases_Bool, cases_lt, eqb-true, le-ltb, lt-ltb}
use Rattle.std.proofs.lemmas.List.{get_or_past}
use Rattle.std.proofs.lemmas.Nat.{div-add-mod'}
use Rattle.ex_base.specs.declared.geometry.Geometry.{Geometry}
use Rattle.ex_base.specs.Area.{IsUnit, NamesLeaf, area_end}
use Rattle.node_walk.specs.Counts.{AreCounted}
use Rattle.page_alloc.specs.UnitSet.{IsFitting, UnitSet, at_unit, used_at}
use Rattle.tree_store.specs.Stored.{IsCounted}

at_low : (g : Geometry) (pages segs : List Bool) (p : ℕ) → p < 257 → at_unit g pages segs false p ≡ false
unfolding at_unit
at_low g pages segs p low = rw (lt-ltb p 257 low)

at_leaf : (g : Geometry) (pages segs : List Bool) (p : ℕ) → area_end g ≤ p → at_unit g pages segs false p ≡ cond (eqb ((p - area_end g) % g.seg_len) 0) (get_or segs ((p - area_end g) / g.seg_len) false) false
unfolding at_unit
at_leaf g pages segs p high = let low : 257 ≤ p = omega arith in rw (le-ltb p 257 low, le-ltb p (area_end g) high)

-- a flag that is set stands in the list
set_inside : (segs : List Bool) (j : ℕ) → get_or segs j false ≡ true → j < length segs
set_inside segs j is = ⊎_elim (λ (inside : j < length segs). inside) (λ past. absurd (true≢false (sym is ∙ get_or_past segs j false past))) (cases_lt j (length segs))

leaf_named : (g : Geometry) (segs : List Bool) (p : ℕ) → length segs ≡ g.segs → area_end g ≤ p → cond (eqb ((p - area_end g) % g.seg_len) 0) (get_or segs ((p - area_end g) / g.seg_len) false) false ≡ true → NamesLeaf g p
leaf_named g segs p fits high used =
    let k = p - area_end g in
    let j = k / g.seg_len in
    ⊎_elim
    (λ (whole : eqb (k % g.seg_len) 0 ≡ true).
    let is : get_or segs j false ≡ true = sym (ap (λ (b : Bool). cond b (get_or segs j false) false) whole) ∙ used in
    let rest : k % g.seg_len ≡ 0 = eqb-true (k % g.seg_len) 0 whole in
    (j, omega (arith, set_inside segs j is, fits), omega (arith, div-add-mod' k g.seg_len, rest, high)))
    (λ (part : eqb (k % g.seg_len) 0 ≡ false). absurd (true≢false (sym used ∙ ap (λ (b : Bool). cond b (get_or segs j false) false) part)))
    (cases_Bool (eqb (k % g.seg_len) 0))

used_named : (u : UnitSet) → IsFitting u → (p : ℕ) → used_at u p ≡ true → IsUnit u.geometry p
used_named u fits p used = ⊎_elim
    (λ (low : p < 257). absurd (true≢false (sym used ∙ at_low u.geometry u.pages.used u.segs.used p low)))
    (λ (from : 257 ≤ p). ⊎_elim
    (λ (page : p < area_end u.geometry). inl (from, page))
    (λ (high : area_end u.geometry ≤ p). inr (leaf_named u.geometry u.segs.used p fits.segs high (sym (at_leaf u.geometry u.pages.used u.segs.used p high) ∙ used)))
    (cases_lt p (area_end u.geometry)))
    (cases_lt p 257)

-- units that were counted
pub counted : (g : Geometry) (u : UnitSet) → IsFitting u → u.geometry ≡ g → AreCounted u → IsCounted g u
counted g u fits same counts = record {
  geometry = same;
  named = λ p used. subst (λ (h : Geometry). IsUnit h p) same (used_named u fits p used);
  owned = counts.owned;
  few = counts.few;
}
