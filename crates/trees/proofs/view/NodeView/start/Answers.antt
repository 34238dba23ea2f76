use Rattle.std.proofs.Common.{◌≡◌, ◌-◌, ◌∙◌, suc, List, Some, slice_get, sym, ap, subst, arith}
use Rattle.trees.specs.declared.Pair.{Pair}
use Rattle.trees.specs.Node.{start_of}
use Rattle.trees.proofs.Children.{count_here}
use Rattle.trees.proofs.view.NodeView.start.Goals as goal

pub returns : goal.returns
returns c =
    let at : c.args.index ≡ suc (c.args.index - 1) = omega (arith, c.if-index-eq0.false) in
    sym (ap (start_of c.args.self.now.pairs) at ∙ count_here c.args.self.now.pairs (c.args.index - 1) c.at.result (subst (λ (pairs : List Pair). slice_get pairs (c.args.index - 1) ≡ Some c.at.result) c.pairs.ensures c.at.ensures))
