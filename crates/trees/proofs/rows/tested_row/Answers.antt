use Rattle.std.proofs.Common.{◌≡◌, arith, rules, ap, subst, length, sym, ◌∙◌, true≢false}
use Rattle.std.specs.Prelude.{IfSome, IfNone}
use Rattle.ex_base.specs.Sizes.{leaf_bytes}
use Rattle.trees.specs.Node.{Node, pairs_on}
use Rattle.trees.specs.Reads.{NodeReads}
use Rattle.trees.specs.Rows.{parts_of, AreHalfFull}
use Rattle.trees.proofs.Parts.{counted, narrow}
use Rattle.trees.proofs.Blame.{reads_as_none, breaks_rules, none_cause}
use Rattle.trees.proofs.NodeLaws.{viewed}
use Rattle.trees.proofs.Rising.{row_reads}
use Rattle.trees.proofs.rows.tested_row.Goals as goal
use Rattle.trees.proofs.rows.tested_row.Goals.{else-level-eq1-via-then-level-eq1+else-not-are_filled, else-level-eq1-via-else-level-eq1}

pub returns-in_default-clause-fault : goal.returns-in_default-clause-fault
returns-in_default-clause-fault c =
    reads_as_none c.args.geometry.now c.args.bytes.now c.args.level c.args.part.size c.args.least c.args.part.page.0 c.no_node.result (narrow c.args.geometry.now)
    (subst (λ found. IfNone found (NodeReads c.args.geometry.now.fan c.args.bytes.now → ⊥)) c.in_default.is c.in_ok-row.ensures.none) c.no_node.ensures

pub over-requires : goal.over-requires
over-requires c = viewed c.args.geometry.now.fan c.args.bytes.now (subst (λ found. IfSome found (λ _. NodeReads c.args.geometry.now.fan c.args.bytes.now)) c.in-Some.is c.in_ok-row.ensures.node)

pub returns-in_err-check_asked-clause-fault : goal.returns-in_err-check_asked-clause-fault
returns-in_err-check_asked-clause-fault c =
    let told = c.in_err-check_asked.ensures.fault c.args.geometry.now c.args.bytes.now c.over.ensures in
    search rules

pub returns-in_err-check_asked-clause-cause : goal.returns-in_err-check_asked-clause-cause
returns-in_err-check_asked-clause-cause c = λ before now.
    let told = c.in_err-check_asked.ensures.cause before now in
    search rules

pub returns-clause-found : goal.returns-clause-found
returns-clause-found c =
    row_reads c.args.geometry.now c.args.bytes.now c.args.level c.args.part.size c.in-Some.row.items c.over.result (λ i. omega (arith, c.type_inv.bytes i))
    (subst (λ found. IfSome found (λ _. NodeReads c.args.geometry.now.fan c.args.bytes.now)) c.in-Some.is c.in_ok-row.ensures.node)
    c.over.ensures c.in_ok-check_asked.ensures.level c.in_ok-check_asked.ensures.total
    (subst (λ found. IfSome found (λ row. row.items ≡ parts_of 0 (pairs_on c.args.bytes.now))) c.in-Some.is c.in_ok-row.ensures.row)

pub returns-clause-counted : goal.returns-clause-counted
returns-clause-counted c =
    counted c.args.geometry.now c.args.bytes.now c.args.level c.args.part.size c.args.least c.in-Some.row.items (returns-clause-found c)
    (omega (arith, c.in_ok-check_asked.ensures.enough, ap (λ (node : Node). length node.pairs) c.over.ensures))
    (elim c.else-level-eq1.branch [
      | else-level-eq1-via-then-level-eq1+else-not-are_filled w ↦ λ one. subst (AreHalfFull (leaf_bytes c.args.geometry.now)) w.deref.ensures.value (subst (λ full. AreHalfFull full w.deref.result.now) w.leaf_bytes.ensures (w.are_filled.ensures.0 w.if-not-are_filled.false))
      | else-level-eq1-via-else-level-eq1 w ↦ λ one. absurd (omega arith)
    ])

pub returns-then-not-are_filled-clause-fault : goal.returns-then-not-are_filled-clause-fault
returns-then-not-are_filled-clause-fault c = breaks_rules c.args.geometry.now c.args.bytes.now c.args.level c.args.part.size c.args.least c.args.part.page.0 c.no_node-then-not-are_filled.result (λ h. true≢false (sym (c.are_filled.ensures.1 (subst (AreHalfFull c.leaf_bytes.result) (sym (c.deref.ensures.value ∙ (subst (λ found. IfSome found (λ row. row.items ≡ parts_of 0 (pairs_on c.args.bytes.now))) c.in-Some.is c.in_ok-row.ensures.row))) (subst (λ full. AreHalfFull full (parts_of 0 (pairs_on c.args.bytes.now))) (sym c.leaf_bytes.ensures) (h.halves c.if-level-eq1.true)))) ∙ c.if-not-are_filled.true)) c.no_node-then-not-are_filled.ensures

pub returns-then-not-are_filled-clause-cause : goal.returns-then-not-are_filled-clause-cause
returns-then-not-are_filled-clause-cause c = λ before now. none_cause before now c.args.part.page c.args.level c.args.part.size c.no_node-then-not-are_filled.result c.no_node-then-not-are_filled.ensures

pub returns-in_default-clause-cause : goal.returns-in_default-clause-cause
returns-in_default-clause-cause c = λ before now. none_cause before now c.args.part.page c.args.level c.args.part.size c.no_node.result c.no_node.ensures
