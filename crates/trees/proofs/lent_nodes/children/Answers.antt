use Rattle.std.proofs.Common.{arith, rules, ◌+◌, ◌-◌, ◌∙◌, List, [], ◌≡◌, Some, slice_get, take, drop, ap, sym, subst}
use Rattle.trees.specs.declared.Pair.{Pair}
use Rattle.trees.specs.Rows.{parts_of}
use Rattle.trees.proofs.Parts.{ChildrenFrom, rise_at, first_child, next_from, children_between}
use Rattle.trees.proofs.lent_nodes.children.Goals as goal

pub loop-index-init : goal.loop-index-init
loop-index-init c =
    let none : c.in_ok-row.row.items ≡ [] = search rules in
    (subst (ChildrenFrom c.args.node.now.pairs c.args.from c.args.from c.start-before.result) (sym none) (first_child c.args.node.now.pairs c.args.from c.start-before.result c.start-before.ensures), omega (arith, c.in_ok-row.ensures.len), c.in_ok-row.ensures.exact)

pub overflow_sub-part : goal.overflow_sub-part
overflow_sub-part c = omega (arith, c.loop-index.invariant.0.children.start, rise_at 0 c.args.node.now.pairs c.loop-index.index c.at-pair.result c.requires.rise (subst (λ (pairs : List Pair). slice_get pairs c.loop-index.index ≡ Some c.at-pair.result) c.pairs-pairs.ensures c.at-pair.ensures))

pub push_reserved-requires : goal.push_reserved-requires
push_reserved-requires c = omega (arith, c.loop-index.invariant.1, c.loop-index.invariant.2, c.loop-index-test.true)

pub loop-index-preserved : goal.loop-index-preserved
loop-index-preserved c = (
  subst (ChildrenFrom c.args.node.now.pairs c.args.from (c.loop-index.index + 1) c.at-pair.result.count) (sym c.push_reserved.ensures.items)
      (next_from c.args.node.now.pairs c.args.from c.loop-index.index c.loop-index.before c.loop-index.row.items c.at-pair.result c.loop-index.invariant.0 (subst (λ (pairs : List Pair). slice_get pairs c.loop-index.index ≡ Some c.at-pair.result) c.pairs-pairs.ensures c.at-pair.ensures)),
  omega (arith, c.push_reserved.ensures.len, c.loop-index.invariant.1),
  c.push_reserved.ensures.capacity ∙ c.loop-index.invariant.2,
)

pub returns : goal.returns
returns c =
    let done : c.loop-index.index ≡ c.args.end = omega (arith, c.loop-index.auto.index-end (omega (arith, c.requires.order)), c.loop-index-test.false) in
    children_between c.args.node.now.pairs c.args.from c.loop-index.index c.loop-index.before c.loop-index.row.items (omega (arith, done, c.requires.order)) (omega (arith, done, c.requires.inside)) c.loop-index.invariant.0
    ∙ ap (λ k. take (k - c.args.from) (drop c.args.from (parts_of 0 c.args.node.now.pairs))) done
