use Rattle.std.proofs.Common.{◌≡◌, List, Some, slice_get, arith, refl, subst}
use Rattle.trees.specs.declared.Pair.{Pair}
use Rattle.trees.proofs.Parts.{rise_at, not_half, next_half, all_half}
use Rattle.std.proofs.lemmas.Bool.{false≢true}
use Rattle.trees.proofs.lent_nodes.are_half_full.Goals as goal
use Rattle.trees.proofs.lent_nodes.are_half_full.Goals.{then-size-full-via-then-size-full, then-size-full-via-else-size-full+then-size-full-2}

pub overflow_sub-size : goal.overflow_sub-size
overflow_sub-size c = omega (arith, c.loop-index.invariant.start, rise_at 0 c.args.node.now.pairs c.loop-index.index c.at-count.result c.requires (subst (λ (pairs : List Pair). slice_get pairs c.loop-index.index ≡ Some c.at-count.result) c.pairs-pairs.ensures c.at-count.ensures))

pub returns-then-size-full : goal.returns-then-size-full
returns-then-size-full c = (
  λ e. absurd (false≢true e),
  λ all. absurd (not_half c.args.full c.args.node.now.pairs c.loop-index.index c.loop-index.before c.at-count.result c.loop-index.invariant (subst (λ (pairs : List Pair). slice_get pairs c.loop-index.index ≡ Some c.at-count.result) c.pairs-pairs.ensures c.at-count.ensures)
      (λ low high. elim c.then-size-full.branch [
        | then-size-full-via-then-size-full w ↦ omega (arith, w.if-size-full.true, low)
        | then-size-full-via-else-size-full+then-size-full-2 w ↦ omega (arith, w.if-size-full-2.true, high)
      ]) all),
)

pub loop-index-preserved : goal.loop-index-preserved
loop-index-preserved c =
    next_half c.args.full c.args.node.now.pairs c.loop-index.index c.loop-index.before c.at-count.result c.loop-index.invariant (subst (λ (pairs : List Pair). slice_get pairs c.loop-index.index ≡ Some c.at-count.result) c.pairs-pairs.ensures c.at-count.ensures) c.if-size-full.false c.if-size-full-2.false

pub returns : goal.returns
returns c = (
  λ e. all_half c.args.full c.args.node.now.pairs c.loop-index.index c.loop-index.before (omega (arith, c.len-index-end.ensures.len, c.loop-index.auto.index-end, c.loop-index-test.false)) c.loop-index.invariant,
  λ all. refl,
)
