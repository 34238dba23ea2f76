use Rattle.std.proofs.Common.{◌≡◌, ◌-◌, ◌+◌, ◌/◌, List, Some, slice_get, arith, subst}
use Rattle.trees.specs.declared.Pair.{Pair}
use Rattle.trees.specs.Node.{Node, RiseFrom}
use Rattle.trees.proofs.Children.{start_halves, lower_half, upper_half, first_found}
use Rattle.trees.proofs.view.NodeView.first_above.Goals as goal

pub loop-low-init : goal.loop-low-init
loop-low-init c = start_halves c.args.pos c.args.self.now.pairs (c.len-high.result - 1) (omega (arith, c.len-high.ensures.len, c.len-high.ensures.some)) (omega (arith, c.len-high.ensures.len)) c.requires

pub loop-low-preserved-then-pos-at : goal.loop-low-preserved-then-pos-at
loop-low-preserved-then-pos-at c =
    lower_half c.args.pos c.args.self.now.pairs c.loop-low.low c.loop-low.high (c.loop-low.low + (c.loop-low.high - c.loop-low.low) / 2) c.at.result (subst (λ (pairs : List Pair). slice_get pairs (c.loop-low.low + (c.loop-low.high - c.loop-low.low) / 2) ≡ Some c.at.result) c.pairs-pairs.ensures c.at.ensures) (omega arith) (omega arith) c.if-pos-at.true c.loop-low.invariant

pub loop-low-preserved : goal.loop-low-preserved
loop-low-preserved c =
    upper_half c.args.pos c.args.self.now.pairs c.loop-low.low c.loop-low.high (c.loop-low.low + (c.loop-low.high - c.loop-low.low) / 2) c.at.result (subst (λ (node : Node). RiseFrom 0 node.pairs) c.self.view_is c.self.invariant.2) (subst (λ (pairs : List Pair). slice_get pairs (c.loop-low.low + (c.loop-low.high - c.loop-low.low) / 2) ≡ Some c.at.result) c.pairs-pairs.ensures c.at.ensures) (omega arith) c.if-pos-at.false c.loop-low.invariant

pub returns : goal.returns
returns c = first_found c.args.pos c.args.self.now.pairs c.loop-low.low c.loop-low.high c.loop-low-test.false c.loop-low.invariant
