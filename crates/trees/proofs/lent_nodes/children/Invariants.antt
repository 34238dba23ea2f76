use Rattle.std.proofs.Common.{◌≡◌, ◌-◌, vec_len, vec_capacity}
use Rattle.trees.proofs.Parts.{ChildrenFrom}
use Rattle.trees.proofs.lent_nodes.children.Given as goal

abbrev pub invariant-loop-index : goal.invariant-loop-index
invariant-loop-index l = ChildrenFrom l.node.pairs l.from l.index l.before l.row.items × (vec_len l.row ≡ l.index - l.from) × (vec_capacity l.row ≡ l.end - l.from)
