use Rattle.std.proofs.Common.{rules, ◌≡◌, ℕ, true, false, inl, inr, ap, ◌∙◌, arith}
use Rattle.ex_base.proofs.Each.{each_at}
use Rattle.object_records.specs.Record.{IsRootField}
use Rattle.page_alloc.specs.UnitSet.{UnitSet, used_at, refs_at}
use Rattle.trees.specs.Owners.{root_pages}
use Rattle.node_walk.specs.declared.ObjectRoot.{ObjectRoot}
use Rattle.node_walk.specs.Counts.{AreCounted}
use Rattle.node_walk.specs.Notes.{notes_in}
use Rattle.node_walk.specs.TreesNamed.{trees_in}
use Rattle.node_walk.proofs.Facts.{handed_err, same_part, BothOf, both_then, both_else, both_swapped}
use Rattle.node_walk.proofs.Loops.{shows_on}
use Rattle.node_walk.proofs.Owning.{all_owned, few_trees}
use Rattle.node_walk.proofs.Roots.{counts_end, next_named, no_root, roots_end, roots_more, roots_start, roots_turn}
use Rattle.node_walk.proofs.all_trees.walk_grouped.Goals as goal
use Rattle.node_walk.proofs.all_trees.walk_grouped.Goals.{then-balanced, else-balanced}

-- units without a reference
none_counted : (units : UnitSet) → refs_at units ≡ (λ _. 0) → AreCounted units
none_counted units fresh = record {
  owned = λ unit some. absurd (omega (arith, some, ap (λ (f : ℕ → ℕ). f unit) fresh));
  few = λ unit. omega (arith, ap (λ (f : ℕ → ℕ). f unit) fresh);
}

pub loop-root-init : goal.loop-root-init
loop-root-init g c = roots_start g.P.Ground c.args.geometry.now c.args.pages.now c.args.units.now (notes_in c.new.result) c.args.roots.now c.new.ensures (none_counted c.args.units.now c.requires.fresh)

pub walk_tree-requires-clause-tracked : goal.walk_tree-requires-clause-tracked
walk_tree-requires-clause-tracked g c =
    (roots_turn g.P.Ground c.args.geometry.now c.args.pages.now c.loop-root.pages c.args.units.now c.loop-root.units c.loop-root.notes.object (notes_in c.loop-root.notes.known) c.turn_to.new.self.object (notes_in c.turn_to.new.self.known)
    c.args.roots.now c.loop-root.root-index c.loop-root.balanced c.loop-root-test.true c.requires.grouped c.turn_to.ensures.object c.turn_to.ensures.known c.loop-root.invariant).tracked

pub returns-in_err-same-clause-bad : goal.returns-in_err-same-clause-bad
returns-in_err-same-clause-bad g c = λ part is told bytes shows.
    let b = g.P.Ground in
    let geo = c.args.geometry.now in
    let turned = roots_turn b geo c.args.pages.now c.loop-root.pages c.args.units.now c.loop-root.units c.loop-root.notes.object (notes_in c.loop-root.notes.known) c.turn_to.new.self.object (notes_in c.turn_to.new.self.known)
    c.args.roots.now c.loop-root.root-index c.loop-root.balanced c.loop-root-test.true c.requires.grouped c.turn_to.ensures.object c.turn_to.ensures.known c.loop-root.invariant in
    let k = c.loop-root.invariant.kept in
    let bad = c.in_err-same.ensures.bad part (handed_err c.from_residual.result _ _ c.from_residual.ensures.1 is) (b.leads_told c.args.pages.now c.loop-root.pages k.leads told) bytes (shows_on b geo bytes c.args.pages.now c.loop-root.pages k shows)
    (turned.found told bytes shows).holds.notes in
    inl (
      bad.0,
      λ named. bad.1 (next_named b geo bytes c.args.pages.now c.loop-root.pages c.args.units.now c.loop-root.units c.turn_to.new.self.object (notes_in c.turn_to.new.self.known) c.args.roots.now c.loop-root.root-index c.loop-root.balanced
          c.loop-root-test.true c.turn_to.ensures.object turned told shows named),
    )

pub loop-root-preserved : goal.loop-root-preserved
loop-root-preserved g c =
    let b = g.P.Ground in
    let geo = c.args.geometry.now in
    let turned = roots_turn b geo c.args.pages.now c.loop-root.pages c.args.units.now c.loop-root.units c.loop-root.notes.object (notes_in c.loop-root.notes.known) c.turn_to.new.self.object (notes_in c.turn_to.new.self.known)
    c.args.roots.now c.loop-root.root-index c.loop-root.balanced c.loop-root-test.true c.requires.grouped c.turn_to.ensures.object c.turn_to.ensures.known c.loop-root.invariant in
    let found : BothOf c.loop-root.balanced c.in_ok-same.same c.if-balanced.balanced = elim c.if-balanced.branch [
      | then-balanced w ↦ both_swapped _ _ _ (both_then _ _ _ w.if-balanced.true w.balanced-is)
      | else-balanced w ↦ both_swapped _ _ _ (both_else c.in_ok-same.same _ _ w.if-balanced.false (w.balanced-is ∙ w.if-balanced.false))
    ] in
    roots_more b geo c.args.pages.now c.loop-root.pages c.walk_tree.new.pages c.args.units.now c.loop-root.units c.walk_tree.new.units c.turn_to.new.self.object (notes_in c.turn_to.new.self.known) (notes_in c.walk_tree.new.known)
    c.args.roots.now c.loop-root.root-index c.loop-root.balanced c.in_ok-same.same c.if-balanced.balanced c.loop-root-test.true c.turn_to.ensures.object
    (each_at (λ (r : ObjectRoot). IsRootField r.root) c.args.roots.now c.loop-root.root-index no_root c.loop-root-test.true c.requires.roots)
    found.holds found.fails turned c.in_ok-same.ensures.kept c.in_ok-same.ensures.geometry c.in_ok-same.ensures.stays c.in_ok-same.ensures.tracked
    (λ told bytes shows notes. c.in_ok-same.ensures.counts told bytes shows notes)
    (λ told bytes shows notes. c.in_ok-same.ensures.walked told bytes shows notes)

pub returns-then-not-balanced-clause-bad : goal.returns-then-not-balanced-clause-bad
returns-then-not-balanced-clause-bad g c = λ part is told bytes shows.
    let found = roots_end g.P.Ground c.args.geometry.now c.args.pages.now c.loop-root.pages c.args.units.now c.loop-root.units c.loop-root.notes.object (notes_in c.loop-root.notes.known) c.args.roots.now c.loop-root.root-index c.loop-root.balanced
    (omega arith) c.loop-root.invariant told bytes shows in
    let thin : c.loop-root.balanced ≡ false = search rules in
    inr (same_part _ _ is, found.named, found.thin thin)

pub returns-clause-named : goal.returns-clause-named
returns-clause-named g c = λ told bytes shows.
    (roots_end g.P.Ground c.args.geometry.now c.args.pages.now c.loop-root.pages c.args.units.now c.loop-root.units c.loop-root.notes.object (notes_in c.loop-root.notes.known) c.args.roots.now c.loop-root.root-index c.loop-root.balanced
    (omega arith) c.loop-root.invariant told bytes shows).named

pub returns-clause-balanced : goal.returns-clause-balanced
returns-clause-balanced g c = λ told bytes shows.
    let fine : c.loop-root.balanced ≡ true = search rules in
    (roots_end g.P.Ground c.args.geometry.now c.args.pages.now c.loop-root.pages c.args.units.now c.loop-root.units c.loop-root.notes.object (notes_in c.loop-root.notes.known) c.args.roots.now c.loop-root.root-index c.loop-root.balanced
    (omega arith) c.loop-root.invariant told bytes shows).fine fine

pub returns-clause-used : goal.returns-clause-used
returns-clause-used g c = λ told bytes shows.
    (roots_end g.P.Ground c.args.geometry.now c.args.pages.now c.loop-root.pages c.args.units.now c.loop-root.units c.loop-root.notes.object (notes_in c.loop-root.notes.known) c.args.roots.now c.loop-root.root-index c.loop-root.balanced
    (omega arith) c.loop-root.invariant told bytes shows).taken

pub returns-clause-owned : goal.returns-clause-owned
returns-clause-owned g c = λ told bytes shows few logged is_used.
    let now = c.loop-root.units in
    let counts = counts_end g.P.Ground c.args.geometry.now c.args.pages.now c.loop-root.pages c.args.units.now now c.loop-root.notes.object (notes_in c.loop-root.notes.known) c.args.roots.now c.loop-root.root-index c.loop-root.balanced
    (omega arith) c.loop-root.invariant told bytes shows in
    all_owned c.args.geometry.now bytes (root_pages (trees_in c.args.roots.now)) logged (used_at c.args.units.now) (used_at now) (refs_at c.args.units.now) (refs_at now) c.requires.fresh is_used
    c.loop-root.invariant.tracked.counted.owned counts (few_trees c.args.roots.now few)

pub returns-in_err-same-clause-stays : goal.returns-in_err-same-clause-stays
returns-in_err-same-clause-stays g c = λ unit is. c.in_err-same.ensures.stays unit (c.loop-root.invariant.stays unit is)
