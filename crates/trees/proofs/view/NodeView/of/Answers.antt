use Rattle.std.proofs.Common.{arith, sym, ◌∙◌, true≢false}
use Rattle.trees.proofs.NodeLaws.{spelled_reads, reads_spelled, viewed}
use Rattle.trees.proofs.view.NodeView.of.Goals as goal

pub returns-then-not-is_node-clause-none : goal.returns-then-not-is_node-clause-none
returns-then-not-is_node-clause-none c = λ level pairs h.
    true≢false (sym (c.is_node.ensures.1 (spelled_reads c.args.fan c.args.page.now level pairs c.requires h).reads) ∙ c.if-not-is_node.true)

pub invariant_of-result : goal.invariant_of-result
invariant_of-result c = viewed c.args.fan c.args.page.now (c.is_node.ensures.0 c.if-not-is_node.false)

pub returns-clause-found : goal.returns-clause-found
returns-clause-found c = reads_spelled c.args.fan c.args.page.now (λ i. omega (arith, c.type_inv.page i)) (c.is_node.ensures.0 c.if-not-is_node.false)
