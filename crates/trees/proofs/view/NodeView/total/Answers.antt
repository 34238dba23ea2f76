use Rattle.std.proofs.Common.{◌≡◌, ◌-◌, ◌≤◌, List, Some, slice_get, length, subst, arith}
use Rattle.trees.specs.declared.Pair.{Pair}
use Rattle.trees.proofs.Children.{total_here}
use Rattle.trees.proofs.view.NodeView.total.Goals as goal

pub returns : goal.returns
returns c =
    let some : 1 ≤ length c.args.self.now.pairs = omega (arith, c.len.ensures.len, c.len.ensures.some) in
    let last : c.len.result - 1 ≡ length c.args.self.now.pairs - 1 = omega (arith, c.len.ensures.len) in
    total_here c.args.self.now.pairs (c.len.result - 1) c.at.result some last (subst (λ (pairs : List Pair). slice_get pairs (c.len.result - 1) ≡ Some c.at.result) c.pairs.ensures c.at.ensures)
