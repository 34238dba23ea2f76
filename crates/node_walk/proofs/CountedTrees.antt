-- The owners of the units of trees, one root after the other.
use Rattle.std.proofs.Common.{◌≡◌, ◌≤◌, ◌+◌, ℕ, Bool, true, false, List, [], ◌∷◌, ◌++◌, Option, Some, None, inl, inr, refl, sym, ap, subst, ◌∙◌, true≢false, arith}
use Rattle.std.specs.List.{AllByRecursion}
use Rattle.ex_base.specs.declared.geometry.Geometry.{Geometry}
use Rattle.ex_base.specs.declared.names.PageNo.{PageNo}
use Rattle.ex_base.specs.declared.names.Root.{Root}
use Rattle.ex_base.specs.Area.{IsUnit}
use Rattle.ex_base.specs.Ports.{times, refs_most}
use Rattle.ex_base.proofs.Counts.{contains_times, none_or_some, same_or_not, times-append, times_apart}
use Rattle.ex_base.proofs.Each.{each_from}
use Rattle.ex_base.proofs.Rows.{each-append}
use Rattle.trees.specs.Owners.{IsInner, page_here}
use Rattle.trees.specs.Trees.{Units}
use Rattle.trees.specs.declared.rows.Part.{Part}
use Rattle.node_walk.specs.Counts.{Came, CountsMet, CountsTrees}
use Rattle.node_walk.specs.Walk.{IsKnown, IsMet, Notes, RootWalked, root_row, row_here}
use Rattle.node_walk.proofs.Counting.{counts_more, counts_none}
use Rattle.node_walk.proofs.Whole.{NotesHold, inner_at}

module _ (g : Geometry) (u : Units) where
  pub trees_none : (used : ℕ → Bool) (refs : ℕ → ℕ) → ((unit : ℕ) → refs unit ≤ refs_most) → CountsTrees g u [] used refs used refs
  unfolding counts_none
  trees_none used refs few = record {
    counts = counts_none g u used refs few;
    inner = tt;
    others = λ unit is. refl;
    roots = λ unit some. absurd (omega (arith, some));
  }

  root_met : (noted : Notes) (height size : ℕ) (page : Option PageNo) (unit : ℕ) → AllByRecursion (λ (part : Part). IsMet noted height part.page.0) (row_here size page) → 1 ≤ times unit (page_here page) → IsKnown noted unit
  root_met noted height size None unit met some = absurd (omega (arith, some))
  root_met noted height size (Some page) unit met some = elim (same_or_not unit page.0) [
    | inl same ↦ (met.0.0, ap noted same ∙ met.0.1)
    | inr differ ↦ absurd (omega (arith, some, times_apart unit page.0 [] differ))
  ]

  module _ (names : List ℕ) (root : Root) (used mid after : ℕ → Bool) (refs between later : ℕ → ℕ) (known noted : Notes) (b c : Bool)
      (holds : NotesHold g u noted b) (one : CountsTrees g u names used refs mid between) (walked : RootWalked g u root mid known after noted c)
      (two : CountsMet g u (page_here root.page) mid between after later noted)
      (free : (p : ℕ) → IsKnown noted p → used p ≡ false) (is_unit : (p : ℕ) → IsKnown noted p → IsUnit g p × (after p ≡ true)) where
    met_new : (page : ℕ) → Came mid after page → IsKnown noted page
    met_new page came = elim (walked.walked.used_then page came.1) [
      | inl was ↦ absurd (true≢false (sym was ∙ came.0))
      | inr is ↦ is
    ]

    roots_came : (unit : ℕ) → 1 ≤ times unit names + times unit (page_here root.page) → Came used after unit × IsUnit g unit
    roots_came unit some = elim (none_or_some (times unit names)) [
      | inr first ↦ let is = one.roots unit first in ((is.0.0, two.counts.still unit is.0.1), is.1)
      | inl none ↦
          let met = root_met noted root.height root.size root.page unit walked.walked.met (omega (arith, some, none)) in
          ((free unit met, (is_unit unit met).1), (is_unit unit met).0)
    ]

    pub trees_counted : CountsTrees g u (names ++ page_here root.page) used refs after later
    unfolding counts_more
    trees_counted = record {
      counts = counts_more g u names (page_here root.page) used mid after refs between later one.counts two.counts;
      inner = each-append (IsInner g u) one.counts.nodes two.counts.nodes one.inner (each_from (IsInner g u) two.counts.nodes (λ page here.
          let came = two.counts.came page (contains_times page two.counts.nodes here) in
          let is = met_new page came.0 in
          inner_at g u noted b holds is.0.level page (is.0, is.1, refl) came.1));
      others = λ unit is. elim (two.others unit) [
        | inl same ↦ same ∙ one.others unit is
        | inr met ↦ absurd (true≢false (sym is ∙ free unit met))
      ];
      roots = λ unit some. roots_came unit (omega (arith, some, times-append unit names (page_here root.page)));
    }
