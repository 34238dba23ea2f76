use Rattle.std.proofs.Common.{arith, length, ap, subst}
use Rattle.ex_base.proofs.Handed.{cause_here}
use Rattle.ex_base.proofs.Results.{if_err_handed}
use Rattle.trees.specs.Node.{Node}
use Rattle.trees.specs.Rows.{parts_of, AreHalfFull}
use Rattle.trees.proofs.Parts.{length-parts, narrow}
use Rattle.trees.proofs.Rising.{row_reads}
use Rattle.trees.proofs.lent_nodes.asked_node.Goals as goal

pub returns-in_err-check_asked-clause-fault : goal.returns-in_err-check_asked-clause-fault
returns-in_err-check_asked-clause-fault c = if_err_handed c.from_residual.result _ c.in_err-check_asked.field-0.0 c.from_residual.ensures.1 (c.in_err-check_asked.ensures.fault c.args.geometry.now c.args.bytes.now c.in-Some.ensures.view)

pub returns-in_err-check_asked-clause-cause : goal.returns-in_err-check_asked-clause-cause
returns-in_err-check_asked-clause-cause c = λ before now. cause_here before now c.from_residual.result c.in_err-check_asked.field-0.0 c.from_residual.ensures.1 (c.in_err-check_asked.ensures.cause before now)

pub returns-in-Some-clause-row : goal.returns-in-Some-clause-row
returns-in-Some-clause-row c =
    row_reads c.args.geometry.now c.args.bytes.now c.args.level c.args.part.size (parts_of 0 c.in-Some.node.pairs) c.in-Some.node (λ i. omega (arith, c.type_inv.bytes i)) c.in-Some.ensures.reads c.in-Some.ensures.view
    c.in_ok-check_asked.ensures.level c.in_ok-check_asked.ensures.total (ap (λ (n : Node). parts_of 0 n.pairs) c.in-Some.ensures.view)

pub returns-in-Some-clause-filled : goal.returns-in-Some-clause-filled
returns-in-Some-clause-filled c = record {
  enough = omega (arith, c.in_ok-check_asked.ensures.enough, length-parts 0 c.in-Some.node.pairs);
  halves = λ one. subst (λ full. AreHalfFull full (parts_of 0 c.in-Some.node.pairs)) c.leaf_bytes.ensures c.in-Some.ensures.halves;
}

pub returns-in-Some-clause-few : goal.returns-in-Some-clause-few
returns-in-Some-clause-few c =
    omega (arith, ap (λ (n : Node). length n.pairs) c.in-Some.ensures.view, (returns-in-Some-clause-row c).fits.fits.few, narrow c.args.geometry.now)
