use Rattle.std.proofs.Common.{◌≡◌, ◌-◌, arith, subst, take_all, IfOk}
use Rattle.trees.specs.Rows.{parts_of}
use Rattle.trees.proofs.Parts.{length-parts}
use Rattle.trees.proofs.lent_nodes.all_children.Goals as goal

pub returns : goal.returns
returns c =
    subst (λ parts. IfOk c.children.result (λ row. row.items ≡ parts)) (take_all (c.len.result - 0) (parts_of 0 c.args.node.now.pairs) (omega (arith, c.len.ensures.len, length-parts 0 c.args.node.now.pairs))) c.children.ensures
