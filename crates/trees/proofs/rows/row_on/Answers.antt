use Rattle.std.proofs.Common.{◌≡◌, arith, length, ap, sym, subst}
use Rattle.std.specs.Prelude.{IfSome}
use Rattle.ex_base.proofs.Handed.{cause_here}
use Rattle.ex_base.proofs.Results.{if_err_handed}
use Rattle.trees.specs.Node.{Node, pairs_on}
use Rattle.trees.specs.Reads.{NodeReads}
use Rattle.trees.specs.Rows.{parts_of, AreHalfFull}
use Rattle.trees.proofs.Parts.{counted}
use Rattle.trees.proofs.NodeLaws.{viewed}
use Rattle.trees.proofs.Rising.{row_reads}
use Rattle.trees.proofs.rows.row_on.Goals as goal

pub over-requires : goal.over-requires
over-requires c = viewed c.args.geometry.now.fan c.args.bytes.now (subst (λ found. IfSome found (λ _. NodeReads c.args.geometry.now.fan c.args.bytes.now)) c.in-Some.is c.in_ok-row.ensures.node)

pub returns-in_err-check_asked-clause-fault : goal.returns-in_err-check_asked-clause-fault
returns-in_err-check_asked-clause-fault c = if_err_handed c.from_residual-in_err-check_asked.result _ c.in_err-check_asked.field-0.0 c.from_residual-in_err-check_asked.ensures.1 (c.in_err-check_asked.ensures.fault c.args.geometry.now c.args.bytes.now c.over.ensures)

pub returns-in_err-check_asked-clause-cause : goal.returns-in_err-check_asked-clause-cause
returns-in_err-check_asked-clause-cause c = λ before now. cause_here before now c.from_residual-in_err-check_asked.result c.in_err-check_asked.field-0.0 c.from_residual-in_err-check_asked.ensures.1 (c.in_err-check_asked.ensures.cause before now)

pub returns-in-Some-clause-found : goal.returns-in-Some-clause-found
returns-in-Some-clause-found c =
    row_reads c.args.geometry.now c.args.bytes.now c.args.level c.args.part.size c.in-Some.row.items c.over.result (λ i. omega (arith, c.type_inv.bytes i))
    (subst (λ found. IfSome found (λ _. NodeReads c.args.geometry.now.fan c.args.bytes.now)) c.in-Some.is c.in_ok-row.ensures.node)
    c.over.ensures c.in_ok-check_asked.ensures.level c.in_ok-check_asked.ensures.total
    (subst (λ found. IfSome found (λ row. row.items ≡ parts_of 0 (pairs_on c.args.bytes.now))) c.in-Some.is c.in_ok-row.ensures.row)

pub returns-in-Some-clause-counted : goal.returns-in-Some-clause-counted
returns-in-Some-clause-counted c =
    let row = subst (λ found. IfSome found (λ row. row.items ≡ parts_of 0 (pairs_on c.args.bytes.now))) c.in-Some.is c.in_ok-row.ensures.row in
    let halves = subst (λ found. IfSome found (λ row. AreHalfFull c.leaf_bytes.result (parts_of 0 (pairs_on c.args.bytes.now)))) c.in-Some.is c.in_ok-row.ensures.halves in
    counted c.args.geometry.now c.args.bytes.now c.args.level c.args.part.size c.args.least c.in-Some.row.items (returns-in-Some-clause-found c)
    (omega (arith, c.in_ok-check_asked.ensures.enough, ap (λ (node : Node). length node.pairs) c.over.ensures))
    (λ one. subst (λ full. AreHalfFull full c.in-Some.row.items) c.leaf_bytes.ensures (subst (AreHalfFull c.leaf_bytes.result) (sym row) halves))
