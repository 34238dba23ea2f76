use Rattle.std.proofs.Common.{◌≡◌, ap, sym, ◌∙◌, length, arith}
use Rattle.trees.specs.Node.{Node, pairs_on}
use Rattle.trees.proofs.NodeLaws.{length-pairs_on}
use Rattle.trees.proofs.view.NodeView.len.Goals as goal

pub returns-clause-len : goal.returns-clause-len
returns-clause-len c = c.from.ensures ∙ c.get_u16.ensures ∙ sym (length-pairs_on c.self.inside.page.now) ∙ ap (λ (node : Node). length node.pairs) c.self.view_is

pub returns-clause-some : goal.returns-clause-some
returns-clause-some c =
    let is : c.from.result ≡ length (pairs_on c.self.inside.page.now) = c.from.ensures ∙ c.get_u16.ensures ∙ sym (length-pairs_on c.self.inside.page.now) in
    omega (arith, c.self.invariant.0)
