use Rattle.std.proofs.Common.{ℕ, sym, subst}
use Rattle.std.proofs.lemmas.Result.{IfOk-weaker}
use Rattle.page_alloc.specs.UnitSet.{used_at}
use Rattle.trees.specs.Trees.{IsNamed}
use Rattle.node_walk.specs.Walk.{IsFirst}
use Rattle.node_walk.proofs.walk.first_met.Goals as goal

pub returns-then-level-eq0-clause-leaf : goal.returns-then-level-eq0-clause-leaf
returns-then-level-eq0-clause-leaf g c = IfOk-weaker c.first_leaf.result _ _ (λ node is zero. is) c.first_leaf.ensures.leaf

pub returns-then-level-eq0-clause-first : goal.returns-then-level-eq0-clause-first
returns-then-level-eq0-clause-first g c =
    IfOk-weaker c.first_leaf.result _ _ (λ node is told bytes shows.
    subst (λ (l : ℕ). IsFirst c.args.geometry.now bytes l c.args.page.0 node.met node.below.items (used_at c.args.units.now)) (sym c.if-level-eq0.true) (is bytes)) c.first_leaf.ensures.first

pub returns-then-level-eq0-clause-bad : goal.returns-then-level-eq0-clause-bad
returns-then-level-eq0-clause-bad g c = λ part is told bytes shows.
    let bad = c.first_leaf.ensures.bad part is bytes in
    (bad.0, λ named. bad.1 (subst (λ (l : ℕ). IsNamed c.args.geometry.now bytes l c.args.page.0) c.if-level-eq0.true named))
