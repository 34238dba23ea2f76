-- What the notes of trees show that were walked: what a unit that has a note names has one too.
use Rattle.std.proofs.Common.{◌≡◌, ◌⊎◌, ℕ, zero, suc, Bool, true, List, [], ◌∷◌, Some, None, inl, inr, refl, sym, ap, subst, ◌∙◌}
use Rattle.std.proofs.lemmas.List.Elements.{Contains-append_cases}
use Rattle.std.specs.Prelude.{Contains}
use Rattle.std.specs.List.{AllByRecursion}
use Rattle.ex_base.specs.declared.geometry.Geometry.{Geometry}
use Rattle.ex_base.proofs.Members.{contains_cases, contains_none}
use Rattle.ex_base.specs.Area.{InPageArea}
use Rattle.ex_base.proofs.Each.{each_as, each_mapped, each_with}
use Rattle.trees.specs.Names.{page_of_pair}
use Rattle.trees.specs.Node.{pairs_on}
use Rattle.trees.specs.Owners.{IsInner, StandsAt}
use Rattle.trees.specs.Trees.{Units, IsNamed, units_on}
use Rattle.trees.specs.declared.rows.Part.{Part}
use Rattle.trees.specs.Rows.{row_units}
use Rattle.node_walk.specs.declared.nodes.Met.{Met}
use Rattle.node_walk.specs.declared.least.Least.{Least}
use Rattle.node_walk.specs.Walk.{Notes, AreNoted, IsKnown, IsMet, IsNew, HasLeast, IsFull, Walked, level_below, row_at, below_least}
use Rattle.node_walk.proofs.Levels.{from_parts, named_at, page_or_leaf, units_of_parts}

-- Notes say what stands at their pages. What these name has notes one level lower, and where all was balanced, its least.
pub record NotesHold (g : Geometry) (u : Units) (noted : Notes) (balanced : Bool) : Type 0 where
  pub notes : AreNoted g u noted
  pub below : (p : ℕ) (met : Met) → noted p ≡ Some met → AllByRecursion (λ (part : Part). IsMet noted (level_below met.level) part.page.0) (row_at u met.level p)
  pub asked : balanced ≡ true → (p : ℕ) (met : Met) → noted p ≡ Some met → AllByRecursion (HasLeast g u (below_least g) (level_below met.level)) (row_at u met.level p)

-- no unit has a note
pub none_noted : (known : Notes) → ((p : ℕ) → known p ≡ None) → (p : ℕ) (met : Met) → known p ≡ Some met → ⊥
none_noted known none p met is = let clash : Some met ≡ None = sym is ∙ none p in cc

pub none_hold : (g : Geometry) (u : Units) (known : Notes) (balanced : Bool) → ((p : ℕ) → known p ≡ None) → NotesHold g u known balanced
none_hold g u known balanced none = record {
  notes = λ p met is. absurd (none_noted known none p met is);
  below = λ p met is. absurd (none_noted known none p met is);
  asked = λ t p met is. absurd (none_noted known none p met is);
}

pub notes_more : (g : Geometry) (u : Units) (level : ℕ) (least : Least) (row : List Part) (used after : ℕ → Bool) (known noted : Notes) (b c r : Bool) → (r ≡ true → (b ≡ true) × (c ≡ true))
    → NotesHold g u known b → Walked g u level least row used known after noted c → NotesHold g u noted r
notes_more g u level least row used after known noted b c r holds was walked = record {
  notes = walked.notes;
  below = λ p met is. elim (walked.fresh p met is) [
    | inl before ↦ each_as _ _ (row_at u met.level p) (λ (part : Part) m. (m.0, walked.kept part.page.0 m.0 m.1, m.2)) (was.below p met before)
    | inr new ↦ new.below
  ];
  asked = λ t p met is. elim (walked.fresh p met is) [
    | inl before ↦ was.asked (holds t).0 p met before
    | inr new ↦ new.asked (holds t).1
  ];
}

module _ (g : Geometry) (u : Units) (noted : Notes) (balanced : Bool) (holds : NotesHold g u noted balanced) where
  at : (l page : ℕ) → IsMet noted l page → StandsAt g u l page
  at l page m = subst (λ k. StandsAt g u k page) m.2 (holds.notes page m.0 m.1).at

  below : (l page : ℕ) → IsMet noted l page → AllByRecursion (λ (part : Part). IsMet noted (level_below l) part.page.0) (row_at u l page)
  below l page m = subst (λ k. AllByRecursion (λ (part : Part). IsMet noted (level_below k) part.page.0) (row_at u k page)) m.2 (holds.below page m.0 m.1)

  asked : balanced ≡ true → (l page : ℕ) → IsMet noted l page → AllByRecursion (HasLeast g u (below_least g) (level_below l)) (row_at u l page)
  asked t l page m = subst (λ k. AllByRecursion (HasLeast g u (below_least g) (level_below k)) (row_at u k page)) m.2 (holds.asked t page m.0 m.1)

  pub named_of : (l page : ℕ) → IsMet noted l page → IsNamed g u l page
  named_of zero page m = at zero page m
  named_of (suc l) page m = named_at g u (suc l) page (at (suc l) page m) (each_as _ _ (row_at u (suc l) page) (λ part is. named_of l part.page.0 is) (below (suc l) page m))

  pub row_known : (l p : ℕ) (row : List Part) → ((page : ℕ) → IsMet noted l page → Contains (units_on u l page) p → IsKnown noted p)
      → AllByRecursion (λ (part : Part). IsMet noted l part.page.0) row → Contains (row_units u l row) p → IsKnown noted p
  row_known l p [] f all h = absurd (contains_none p h)
  row_known l p (part ∷ row) f all h = elim (Contains-append_cases (units_on u l part.page.0) (row_units u l row) p h) [
    | inl here ↦ f part.page.0 all.0 here
    | inr rest ↦ row_known l p row f all.1 rest
  ]

  pub known_of : (l page p : ℕ) → IsMet noted l page → Contains (units_on u l page) p → IsKnown noted p
  known_of zero page p m h = elim (contains_cases page p [] h) [
    | inl same ↦ (m.0, ap noted (sym same) ∙ m.1)
    | inr none ↦ absurd (contains_none p none)
  ]
  known_of (suc l) page p m h = elim (contains_cases page p _ h) [
    | inl same ↦ (m.0, ap noted (sym same) ∙ m.1)
    | inr rest ↦ row_known l p (row_at u (suc l) page) (λ child is inside. known_of l child p is inside) (below (suc l) page m) (subst (λ xs. Contains xs p) (sym (units_of_parts u l 0 _)) rest)
  ]

  pub full_of : balanced ≡ true → (some : Least) (l : ℕ) (part : Part) → IsMet noted l part.page.0 → HasLeast g u some l part → IsFull g u some l part
  full_of t some zero part m has = has
  full_of t some (suc l) part m has =
      (has, each_with _ _ _ (row_at u (suc l) part.page.0) (λ child is own. full_of t (below_least g) l child is own) (below (suc l) part.page.0 m) (asked t (suc l) part.page.0 m))

  -- of a row
  pub row_named : (l : ℕ) (row : List Part) → AllByRecursion (λ (part : Part). IsMet noted l part.page.0) row → AllByRecursion (λ (part : Part). IsNamed g u l part.page.0) row
  row_named l row all = each_as (λ (part : Part). IsMet noted l part.page.0) (λ (part : Part). IsNamed g u l part.page.0) row (λ part is. named_of l part.page.0 is) all

  pub row_full : balanced ≡ true → (some : Least) (l : ℕ) (row : List Part) → AllByRecursion (λ (part : Part). IsMet noted l part.page.0) row → AllByRecursion (HasLeast g u some l) row → AllByRecursion (IsFull g u some l) row
  row_full t some l row all has = each_with (λ (part : Part). IsMet noted l part.page.0) (HasLeast g u some l) (IsFull g u some l) row (λ part is own. full_of t some l part is own) all has

  -- ---- owners

  pub inner_at : (l page : ℕ) → IsMet noted l page → InPageArea g page → IsInner g u page
  inner_at zero page m area = absurd (page_or_leaf g page area (at zero page m))
  inner_at (suc l) page m area = record {
    level = l;
    stands = at (suc l) page m;
    below = each_mapped (StandsAt g u l) page_of_pair (pairs_on (u page)) (from_parts (StandsAt g u l) 0 (pairs_on (u page)) (each_as _ _ (row_at u (suc l) page) (λ part is. at l part.page.0 is) (below (suc l) page m)));
  }
