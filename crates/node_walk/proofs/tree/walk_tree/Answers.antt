use Rattle.std.proofs.Common.{rules, ◌≡◌, ◌≤◌, ◌∷◌, [], ℕ, List, true, Option, Some, None, refl, sym, subst, true≢false, ◌∙◌, arith}
use Rattle.ex_base.specs.declared.names.PageNo.{PageNo}
use Rattle.ex_base.specs.Sizes.{object_most}
use Rattle.page_alloc.specs.UnitSet.{used_at, refs_at}
use Rattle.trees.specs.Owners.{page_here}
use Rattle.node_walk.specs.Counts.{CountsMet}
use Rattle.node_walk.specs.Notes.{notes_in}
use Rattle.node_walk.specs.Walk.{CanWalk, Walked, root_least, row_here}
use Rattle.node_walk.proofs.Counting.{met_none}
use Rattle.node_walk.proofs.Facts.{handed_err, within, is_within}
use Rattle.node_walk.proofs.Steps.{walked_none}
use Rattle.node_walk.proofs.Trees.{no_page}
use Rattle.node_walk.proofs.tree.walk_tree.Goals as goal

pub returns-in_default-clause-walked : goal.returns-in_default-clause-walked
returns-in_default-clause-walked g c = λ told bytes shows notes.
    let geo = c.args.geometry.now in
    let root = c.args.root.now in
    let none : root.page ≡ None = search rules in
    let small : root.size ≤ object_most = omega (arith, (no_page geo bytes root c.requires.root none).0) in
    record {
      full = true;
      walked = subst (λ (page : Option PageNo). Walked geo bytes root.height root_least (row_here root.size page) (used_at c.args.units.now) (notes_in c.args.known.now) (used_at c.args.units.now) (notes_in c.args.known.now) true) (sym none)
          (walked_none geo bytes root.height root_least (used_at c.args.units.now) (notes_in c.args.known.now) notes);
      is = (λ t. (refl, small), λ both. refl);
    }

pub returns-in_default-clause-counts : goal.returns-in_default-clause-counts
returns-in_default-clause-counts g c = λ told bytes shows notes.
    let none : c.args.root.now.page ≡ None = search rules in
    subst (λ (page : Option PageNo). CountsMet c.args.geometry.now bytes (page_here page) (used_at c.args.units.now) (refs_at c.args.units.now) (used_at c.args.units.now) (refs_at c.args.units.now) (notes_in c.args.known.now)) (sym none)
    (met_none c.args.geometry.now bytes (used_at c.args.units.now) (refs_at c.args.units.now) (notes_in c.args.known.now) c.requires.tracked.counted.few)

pub returns-in_err-balanced-clause-bad : goal.returns-in_err-balanced-clause-bad
returns-in_err-balanced-clause-bad g c = λ part is told bytes shows notes.
    let root = c.args.root.now in
    let bad = c.in_err-balanced.ensures.bad part (handed_err c.from_residual.result _ _ c.from_residual.ensures.1 is) told bytes shows notes in
    (bad.0, λ can. bad.1 (subst (λ (page : Option PageNo). CanWalk c.args.geometry.now bytes (used_at c.args.units.now) (notes_in c.args.known.now) root.height (row_here root.size page)) c.in-Some.is can))

pub returns-then-balanced-clause-walked : goal.returns-then-balanced-clause-walked
returns-then-balanced-clause-walked g c = λ told bytes shows notes.
    let geo = c.args.geometry.now in
    let root = c.args.root.now in
    record {
      full = c.in_ok-balanced.balanced;
      walked = subst (λ (page : Option PageNo). Walked geo bytes root.height root_least (row_here root.size page) (used_at c.args.units.now) (notes_in c.args.known.now) (used_at c.walk.new.units) (notes_in c.walk.new.known) c.in_ok-balanced.balanced) (sym c.in-Some.is)
          (c.in_ok-balanced.ensures.walked told bytes shows notes);
      is = (λ t. (c.if-balanced.true, within _ _ _ refl t), λ both. is_within _ _ _ refl both.1);
    }

pub returns-then-balanced-clause-counts : goal.returns-then-balanced-clause-counts
returns-then-balanced-clause-counts g c = λ told bytes shows notes.
    subst (λ (page : Option PageNo). CountsMet c.args.geometry.now bytes (page_here page) (used_at c.args.units.now) (refs_at c.args.units.now) (used_at c.walk.new.units) (refs_at c.walk.new.units) (notes_in c.walk.new.known)) (sym c.in-Some.is)
    (c.in_ok-balanced.ensures.counts told bytes shows notes)

pub returns-else-balanced-clause-walked : goal.returns-else-balanced-clause-walked
returns-else-balanced-clause-walked g c = λ told bytes shows notes.
    let geo = c.args.geometry.now in
    let root = c.args.root.now in
    record {
      full = c.in_ok-balanced.balanced;
      walked = subst (λ (page : Option PageNo). Walked geo bytes root.height root_least (row_here root.size page) (used_at c.args.units.now) (notes_in c.args.known.now) (used_at c.walk.new.units) (notes_in c.walk.new.known) c.in_ok-balanced.balanced) (sym c.in-Some.is)
          (c.in_ok-balanced.ensures.walked told bytes shows notes);
      is = (λ t. absurd (true≢false (sym t ∙ c.if-balanced.false)), λ both. both.0);
    }

pub returns-else-balanced-clause-counts : goal.returns-else-balanced-clause-counts
returns-else-balanced-clause-counts g c = λ told bytes shows notes.
    subst (λ (page : Option PageNo). CountsMet c.args.geometry.now bytes (page_here page) (used_at c.args.units.now) (refs_at c.args.units.now) (used_at c.walk.new.units) (refs_at c.walk.new.units) (notes_in c.walk.new.known)) (sym c.in-Some.is)
    (c.in_ok-balanced.ensures.counts told bytes shows notes)
