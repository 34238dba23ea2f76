use Rattle.std.proofs.Common.{length, ap, arith}
use Rattle.trees.specs.Node.{Node}
use Rattle.trees.proofs.Blame.{breaks_rules, too_few}
use Rattle.trees.proofs.lent_nodes.check_asked.Goals as goal

pub returns-then-len-least-clause-fault : goal.returns-then-len-least-clause-fault
returns-then-len-least-clause-fault c = λ g page is.
    breaks_rules g page c.args.level c.args.part.size c.args.least c.args.part.page.0 c.no_node.result
    (too_few g page c.args.level c.args.least (omega (arith, c.len.ensures.len, c.if-len-least.true, ap (λ (node : Node). length node.pairs) is))) c.no_node.ensures
