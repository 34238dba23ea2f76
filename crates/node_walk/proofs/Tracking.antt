-- Notes and counts, as a unit comes into use and is counted.
use Rattle.std.proofs.Common.{◌≡◌, ◌≤◌, ◌+◌, ℕ, Bool, true, false, Some, min, nat_eq, inl, inr, sym, ap, subst, ◌∙◌, arith}
use Rattle.std.proofs.lemmas.Bool.Decides.{nat_tests}
use Rattle.ex_base.specs.declared.geometry.Geometry.{Geometry}
use Rattle.ex_base.specs.Area.{IsUnit}
use Rattle.ex_base.specs.Ports.{refs_most, with_ref}
use Rattle.ex_base.proofs.Counts.{same_or_not, not_equal}
use Rattle.page_alloc.specs.UnitSet.{UnitSet, used_at, refs_at, updated}
use Rattle.node_walk.specs.declared.nodes.Met.{Met}
use Rattle.node_walk.specs.Counts.{AreCounted, AreTracked, counted_at}
use Rattle.node_walk.specs.Walk.{Notes}
use Rattle.node_walk.proofs.Counting.{added, counted_else}
use Rattle.node_walk.proofs.Facts.{updated_here, updated_else}

-- one more that is used
pub still_updated : (used : ℕ → Bool) (page unit : ℕ) → used unit ≡ true → updated used page true unit ≡ true
still_updated used page unit is = elim (same_or_not page unit) [
  | inl same ↦ subst (λ q. updated used page true q ≡ true) same (updated_here used page true)
  | inr differ ↦ updated_else used page true unit (not_equal page unit differ) ∙ is
]

-- a unit came into use, with a note
pub tracked_first : (g : Geometry) (before after : UnitSet) (known noted : Notes) (page : ℕ) (met : Met) → AreTracked g before known → IsUnit g page → used_at after ≡ updated (used_at before) page true → refs_at after ≡ refs_at before
    → noted page ≡ Some met → ((q : ℕ) → nat_eq page q ≡ false → noted q ≡ known q) → AreTracked g after noted
tracked_first g before after known noted page met h is_unit used refs here others = record {
  counted = record {
    owned = λ unit some. still unit (h.counted.owned unit (subst (λ (f : ℕ → ℕ). 1 ≤ f unit) refs some));
    few = λ unit. subst (λ (f : ℕ → ℕ). f unit ≤ refs_most) (sym refs) (h.counted.few unit);
  };
  noted = λ unit is. elim (same_or_not page unit) [
    | inl same ↦ (subst (IsUnit g) same is_unit, subst (λ q. used_at after q ≡ true) same (ap (λ (f : ℕ → Bool). f page) used ∙ updated_here (used_at before) page true))
    | inr differ ↦
        let was = h.noted unit (is.0, sym (others unit (not_equal page unit differ)) ∙ is.1) in
        (was.0, still unit was.1)
  ];
}
  where
    still : (unit : ℕ) → used_at before unit ≡ true → used_at after unit ≡ true
    still unit is = ap (λ (f : ℕ → Bool). f unit) used ∙ still_updated (used_at before) page unit is

-- ---- a used unit is counted

with_one : (used : Bool) (count : ℕ) → used ≡ true → count ≤ refs_most → with_ref used count ≡ min (count + 1) refs_most
with_one used count is few = grind (arith, nat_tests)

pub one_more : (before after : UnitSet) (page : ℕ) → AreCounted before → used_at before page ≡ true → refs_at after ≡ updated (refs_at before) page (with_ref (used_at before page) (refs_at before page))
    → refs_at after ≡ counted_at (refs_at before) page
one_more before after page h is refs = refs ∙ ap (updated (refs_at before) page) (with_one (used_at before page) (refs_at before page) is (h.few page))

pub tracked_counted : (g : Geometry) (before after : UnitSet) (known : Notes) (page : ℕ) → AreTracked g before known → used_at before page ≡ true → used_at after ≡ used_at before → refs_at after ≡ counted_at (refs_at before) page
    → AreTracked g after known
tracked_counted g before after known page h is used refs = record {
  counted = record {
    owned = λ unit some. ap (λ (f : ℕ → Bool). f unit) used ∙ owned unit (subst (λ (f : ℕ → ℕ). 1 ≤ f unit) refs some);
    few = λ unit. subst (λ (f : ℕ → ℕ). f unit ≤ refs_most) (sym refs) (few unit);
  };
  noted = λ unit note. let was = h.noted unit note in (was.0, ap (λ (f : ℕ → Bool). f unit) used ∙ was.1);
}
  where
    owned : (unit : ℕ) → 1 ≤ counted_at (refs_at before) page unit → used_at before unit ≡ true
    owned unit some = elim (same_or_not unit page) [
      | inl same ↦ ap (used_at before) same ∙ is
      | inr differ ↦ h.counted.owned unit (subst (λ n. 1 ≤ n) (counted_else (refs_at before) page unit differ) some)
    ]

    few : (unit : ℕ) → counted_at (refs_at before) page unit ≤ refs_most
    few unit = subst (λ n. n ≤ refs_most) (sym (added (refs_at before) page unit (h.counted.few unit))) (omega arith)
