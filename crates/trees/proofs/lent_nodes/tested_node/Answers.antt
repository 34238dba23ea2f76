use Rattle.std.proofs.Common.{arith, subst, sym, ◌∙◌, true≢false}
use Rattle.trees.specs.Rows.{parts_of, AreHalfFull}
use Rattle.trees.proofs.Parts.{length-parts}
use Rattle.trees.specs.Node.{Node}
use Rattle.trees.proofs.Blame.{breaks_rules, none_cause}
use Rattle.ex_base.proofs.Handed.{cause_here}
use Rattle.ex_base.proofs.Results.{if_err_handed}
use Rattle.ex_base.specs.Sizes.{leaf_bytes}
use Rattle.trees.proofs.lent_nodes.tested_node.Goals as goal
use Rattle.trees.proofs.lent_nodes.tested_node.Goals.{else-level-eq1-via-then-level-eq1+else-not-are_half_full, else-level-eq1-via-else-level-eq1}

pub returns-clause-filled : goal.returns-clause-filled
returns-clause-filled c = record {
  enough = omega (arith, c.in_ok-check_asked.ensures.enough, length-parts 0 c.in-Some.node.pairs);
  halves = elim c.else-level-eq1.branch [
    | else-level-eq1-via-then-level-eq1+else-not-are_half_full w ↦ λ one. subst (λ full. AreHalfFull full (parts_of 0 c.in-Some.node.pairs)) w.leaf_bytes.ensures
        (w.are_half_full.ensures.0 w.if-not-are_half_full.false)
    | else-level-eq1-via-else-level-eq1 w ↦ λ one. absurd (omega arith)
  ];
}

pub returns-in_err-check_asked-clause-fault : goal.returns-in_err-check_asked-clause-fault
returns-in_err-check_asked-clause-fault c = if_err_handed c.from_residual.result _ c.in_err-check_asked.field-0.0 c.from_residual.ensures.1 (c.in_err-check_asked.ensures.fault c.args.geometry.now c.args.bytes.now c.in-Some.ensures.view)

pub returns-in_err-check_asked-clause-cause : goal.returns-in_err-check_asked-clause-cause
returns-in_err-check_asked-clause-cause c = λ before now. cause_here before now c.from_residual.result c.in_err-check_asked.field-0.0 c.from_residual.ensures.1 (c.in_err-check_asked.ensures.cause before now)

pub returns-then-not-are_half_full-clause-fault : goal.returns-then-not-are_half_full-clause-fault
returns-then-not-are_half_full-clause-fault c = breaks_rules c.args.geometry.now c.args.bytes.now c.args.level c.args.part.size c.args.least c.args.part.page.0 c.no_node-then-not-are_half_full.result (λ h. true≢false (sym (c.are_half_full.ensures.1 (subst (λ full. AreHalfFull full (parts_of 0 c.in-Some.node.pairs)) (sym c.leaf_bytes.ensures) (subst (λ (node : Node). AreHalfFull (leaf_bytes c.args.geometry.now) (parts_of 0 node.pairs)) (sym c.in-Some.ensures.view) (h.halves c.if-level-eq1.true)))) ∙ c.if-not-are_half_full.true)) c.no_node-then-not-are_half_full.ensures

pub returns-then-not-are_half_full-clause-cause : goal.returns-then-not-are_half_full-clause-cause
returns-then-not-are_half_full-clause-cause c = λ before now. none_cause before now c.args.part.page c.args.level c.args.part.size c.no_node-then-not-are_half_full.result c.no_node-then-not-are_half_full.ensures

pub returns-in_default-clause-cause : goal.returns-in_default-clause-cause
returns-in_default-clause-cause c = λ before now. none_cause before now c.args.part.page c.args.level c.args.part.size c.no_node.result c.no_node.ensures
