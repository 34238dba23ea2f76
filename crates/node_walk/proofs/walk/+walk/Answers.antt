use Rattle.std.proofs.Common.{◌-◌, List, [], ◌∷◌, sym, subst, ◌∙◌, get_or, take_all, true≢false, arith}
use Rattle.node_walk.specs.Notes.{notes_in}
use Rattle.page_alloc.specs.UnitSet.{used_at, refs_at}
use Rattle.trees.specs.declared.rows.Part.{Part}
use Rattle.trees.proofs.Reading.{no_part}
use Rattle.node_walk.specs.declared.least.Least.{Least}
use Rattle.node_walk.specs.Counts.{CountsMet}
use Rattle.node_walk.specs.Walk.{IsKnown, Walked, Meets, level_below, below_least}
use Rattle.node_walk.proofs.Counting.{met_then as counts_then, row_pages}
use Rattle.node_walk.proofs.Facts.{handed_err, BothOf, both_then, both_else, both_swapped}
use Rattle.node_walk.proofs.Steps.{cant_meet, met_notes, met_then, can_below}
use Rattle.node_walk.proofs.Loops.{shows_on, walk_start, walk_more, can_next}
use Rattle.node_walk.proofs.walk.+walk.Goals as goal
use Rattle.node_walk.proofs.walk.+walk.Goals.{then-balanced, else-balanced, then-asked, else-asked}

pub returns-in_err-node-clause-bad : goal.returns-in_err-node-clause-bad
returns-in_err-node-clause-bad g t c = λ part is told bytes shows notes.
    let bad = c.in_err-node.ensures.bad part (handed_err c.from_residual.result _ _ c.from_residual.ensures.1 is) told bytes shows notes in
    (bad.0, cant_meet c.args.geometry.now bytes c.args.level c.args.tree (used_at c.args.units.now) (notes_in c.args.known.now) bad.1)

pub returns-in_err-same-clause-bad : goal.returns-in_err-same-clause-bad
returns-in_err-same-clause-bad g t c = λ part is told bytes shows notes.
    let b = g.P.Ground in
    let geo = c.args.geometry.now in
    let k = c.in_ok-node.ensures.kept in
    let told1 = b.leads_told c.args.pages.now c.meet.new.pages k.leads told in
    let shows1 = shows_on b geo bytes c.args.pages.now c.meet.new.pages k shows in
    let meets : Meets geo bytes c.args.level c.args.tree.page.0 c.in_ok-node.node.met c.deref-child-items.result.now (used_at c.args.units.now) (notes_in c.args.known.now) (used_at c.meet.new.units) (notes_in c.meet.new.known) =
    subst (λ (xs : List Part). Meets geo bytes c.args.level c.args.tree.page.0 c.in_ok-node.node.met xs (used_at c.args.units.now) (notes_in c.args.known.now) (used_at c.meet.new.units) (notes_in c.meet.new.known)) (sym c.deref-child-items.ensures.value) (c.in_ok-node.ensures.met told bytes shows) in
    let notes1 = met_notes geo bytes c.args.level c.args.tree.page.0 c.in_ok-node.node.met c.deref-child-items.result.now (used_at c.args.units.now) (used_at c.meet.new.units) (notes_in c.args.known.now) (notes_in c.meet.new.known) meets notes in
    let k2 = c.loop-child.invariant.kept in
    let bad = c.in_err-same.ensures.bad part (handed_err c.from_residual-in_err-same.result _ _ c.from_residual-in_err-same.ensures.1 is)
    (b.leads_told c.meet.new.pages c.loop-child.pages k2.leads told1) bytes (shows_on b geo bytes c.meet.new.pages c.loop-child.pages k2 shows1)
    (c.loop-child.invariant.walked told1 bytes shows1 notes1).notes in (
      bad.0,
      λ can. bad.1 (can_next b geo bytes c.meet.new.pages c.loop-child.pages c.meet.new.units c.loop-child.units (notes_in c.meet.new.known) (notes_in c.loop-child.known) c.args.level c.deref-child-items.result.now c.loop-child.child-index c.loop-child.balanced
          c.loop-child-test.true c.loop-child.invariant told1 shows1 notes1
          (can_below geo bytes c.args.level c.args.tree c.in_ok-node.node.met c.deref-child-items.result.now (used_at c.args.units.now) (used_at c.meet.new.units) (notes_in c.args.known.now) (notes_in c.meet.new.known) meets can)),
    )

pub loop-child-init : goal.loop-child-init
loop-child-init g t c = walk_start g.P.Ground c.args.geometry.now c.meet.new.pages c.meet.new.units (notes_in c.meet.new.known) c.args.level c.deref-child-items.result.now c.in_ok-node.ensures.tracked

pub loop-child-preserved : goal.loop-child-preserved
loop-child-preserved g t c =
    let found : BothOf c.loop-child.balanced c.in_ok-same.same c.if-balanced.balanced = elim c.if-balanced.branch [
      | then-balanced w ↦ both_swapped _ _ _ (both_then _ _ _ w.if-balanced.true w.balanced-is)
      | else-balanced w ↦ both_swapped _ _ _ (both_else c.in_ok-same.same _ _ w.if-balanced.false (w.balanced-is ∙ w.if-balanced.false))
    ] in
    walk_more g.P.Ground c.args.geometry.now c.meet.new.pages c.loop-child.pages c.walk.new.pages c.meet.new.units c.loop-child.units c.walk.new.units (notes_in c.meet.new.known) (notes_in c.loop-child.known) (notes_in c.walk.new.known)
    c.args.level c.deref-child-items.result.now c.loop-child.child-index c.loop-child.balanced c.in_ok-same.same c.if-balanced.balanced c.loop-child-test.true found.holds found.fails c.loop-child.invariant c.in_ok-same.ensures.kept c.in_ok-same.ensures.geometry c.in_ok-same.ensures.stays c.in_ok-same.ensures.tracked
    (λ told bytes shows notes. subst (λ (least : Least). Walked c.args.geometry.now bytes (c.args.level - 1) least (get_or c.deref-child-items.result.now c.loop-child.child-index no_part ∷ []) (used_at c.loop-child.units) (notes_in c.loop-child.known) (used_at c.walk.new.units) (notes_in c.walk.new.known) c.in_ok-same.same)
    c.least_below-below.ensures (c.in_ok-same.ensures.walked told bytes shows notes))
    (λ told bytes shows notes. c.in_ok-same.ensures.counts told bytes shows notes)

pub returns-clause-walked : goal.returns-clause-walked
returns-clause-walked g t c = λ told bytes shows notes.
    let b = g.P.Ground in
    let geo = c.args.geometry.now in
    let k = c.in_ok-node.ensures.kept in
    let meets : Meets geo bytes c.args.level c.args.tree.page.0 c.in_ok-node.node.met c.deref-child-items.result.now (used_at c.args.units.now) (notes_in c.args.known.now) (used_at c.meet.new.units) (notes_in c.meet.new.known) =
    subst (λ (xs : List Part). Meets geo bytes c.args.level c.args.tree.page.0 c.in_ok-node.node.met xs (used_at c.args.units.now) (notes_in c.args.known.now) (used_at c.meet.new.units) (notes_in c.meet.new.known)) (sym c.deref-child-items.ensures.value) (c.in_ok-node.ensures.met told bytes shows) in
    let notes1 = met_notes geo bytes c.args.level c.args.tree.page.0 c.in_ok-node.node.met c.deref-child-items.result.now (used_at c.args.units.now) (used_at c.meet.new.units) (notes_in c.args.known.now) (notes_in c.meet.new.known) meets notes in
    let walked = c.loop-child.invariant.walked (b.leads_told c.args.pages.now c.meet.new.pages k.leads told) bytes (shows_on b geo bytes c.args.pages.now c.meet.new.pages k shows) notes1 in
    let found : BothOf c.loop-child.balanced c.is_asked-asked.result c.if-asked.result = elim c.if-asked.branch [
      | then-asked w ↦ both_then _ _ _ w.if-asked.true w.result-is
      | else-asked w ↦ both_else _ _ _ w.if-asked.false (w.result-is ∙ w.if-asked.false)
    ] in
    met_then geo bytes c.args.level c.args.least c.args.tree c.in_ok-node.node.met c.deref-child-items.result.now (used_at c.args.units.now) (used_at c.meet.new.units) (used_at c.loop-child.units) (notes_in c.args.known.now) (notes_in c.meet.new.known) (notes_in c.loop-child.known)
    c.loop-child.balanced c.is_asked-asked.result c.if-asked.result found.holds found.fails c.is_asked-asked.ensures.0 (λ f asked. true≢false (sym (c.is_asked-asked.ensures.1 asked) ∙ f)) meets notes
    (subst (λ (xs : List Part). Walked geo bytes (level_below c.args.level) (below_least geo) xs (used_at c.meet.new.units) (notes_in c.meet.new.known) (used_at c.loop-child.units) (notes_in c.loop-child.known) c.loop-child.balanced)
    (take_all c.loop-child.child-index c.deref-child-items.result.now (omega arith)) walked)

pub returns-clause-counts : goal.returns-clause-counts
returns-clause-counts g t c = λ told bytes shows notes.
    let b = g.P.Ground in
    let geo = c.args.geometry.now in
    let row = c.deref-child-items.result.now in
    let start = notes_in c.meet.new.known in
    let noted = notes_in c.loop-child.known in
    let k = c.in_ok-node.ensures.kept in
    let meets : Meets geo bytes c.args.level c.args.tree.page.0 c.in_ok-node.node.met row (used_at c.args.units.now) (notes_in c.args.known.now) (used_at c.meet.new.units) start =
    subst (λ (xs : List Part). Meets geo bytes c.args.level c.args.tree.page.0 c.in_ok-node.node.met xs (used_at c.args.units.now) (notes_in c.args.known.now) (used_at c.meet.new.units) start) (sym c.deref-child-items.ensures.value) (c.in_ok-node.ensures.met told bytes shows) in
    let notes1 = met_notes geo bytes c.args.level c.args.tree.page.0 c.in_ok-node.node.met row (used_at c.args.units.now) (used_at c.meet.new.units) (notes_in c.args.known.now) start meets notes in
    let told1 = b.leads_told c.args.pages.now c.meet.new.pages k.leads told in
    let shows1 = shows_on b geo bytes c.args.pages.now c.meet.new.pages k shows in
    let walked = c.loop-child.invariant.walked told1 bytes shows1 notes1 in
    let note : IsKnown noted c.args.tree.page.0 = (c.in_ok-node.ensures.noted.0, walked.kept c.args.tree.page.0 c.in_ok-node.ensures.noted.0 c.in_ok-node.ensures.noted.1) in
    counts_then geo bytes c.args.level c.args.tree.page.0 c.in_ok-node.node.met row (used_at c.args.units.now) (used_at c.meet.new.units) (used_at c.loop-child.units) (notes_in c.args.known.now) start noted
    (refs_at c.args.units.now) (refs_at c.meet.new.units) (refs_at c.loop-child.units) c.requires.tracked.counted.few note c.in_ok-node.ensures.counted meets
    (subst (λ (xs : List Part). CountsMet geo bytes (row_pages xs) (used_at c.meet.new.units) (refs_at c.meet.new.units) (used_at c.loop-child.units) (refs_at c.loop-child.units) noted)
    (take_all c.loop-child.child-index row (omega arith)) (c.loop-child.invariant.counts told1 bytes shows1 notes1))

pub returns-in_err-same-clause-stays : goal.returns-in_err-same-clause-stays
returns-in_err-same-clause-stays g t c = λ unit is. c.in_err-same.ensures.stays unit (c.loop-child.invariant.stays unit (c.in_ok-node.ensures.stays unit is))

pub returns-clause-stays : goal.returns-clause-stays
returns-clause-stays g t c = λ unit is. c.loop-child.invariant.stays unit (c.in_ok-node.ensures.stays unit is)
