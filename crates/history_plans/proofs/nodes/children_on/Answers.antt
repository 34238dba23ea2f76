use Rattle.std.proofs.Common.{sym, ◌∙◌}
use Rattle.trees.proofs.NodeLaws.{spelled_reads}
use Rattle.history_plans.proofs.nodes.children_on.Goals as goal

pub returns-in_default-clause-none : goal.returns-in_default-clause-none
returns-in_default-clause-none c = λ pairs is. c.in_default.ensures.none c.args.level pairs is

pub returns-then-level-clause-none : goal.returns-then-level-clause-none
returns-then-level-clause-none c = λ pairs is.
    c.if-level.true (c.level.ensures ∙ sym (spelled_reads c.args.fan c.args.bytes.now c.in-Some.node.level c.in-Some.node.pairs c.requires c.in-Some.ensures.found).same_level
    ∙ (spelled_reads c.args.fan c.args.bytes.now c.args.level pairs c.requires is).same_level)
