use Rattle.std.proofs.Common.{◌≡◌, [], List, ℕ, Some, subst, ◌∙◌, sym}
use Rattle.std.proofs.lemmas.Bool.{true≢false}
use Rattle.std.proofs.lemmas.Result.{IfOk-weaker}
use Rattle.disk_model.specs.Runs.{at_most_trans}
use Rattle.op_log.specs.declared.record.LogRecord.{LogRecord}
use Rattle.op_log.specs.Log.{SaysLog}
use Rattle.op_log.proofs.scan.scan_log.Goals as goal

pub returns-clause-at_most_twice : goal.returns-clause-at_most_twice
returns-clause-at_most_twice g c = at_most_trans c.is_open.ensures.at_most_once c.read_log.ensures.at_most_once

pub returns-clause-once : goal.returns-clause-once
returns-clause-once g c =
    IfOk-weaker c.read_log.result _ _ (λ found says d holds none.
    let here = subst (λ (rs : List LogRecord). SaysLog c.args.geometry.now rs d) none (says d (c.is_open.ensures.only.nothing.disk ∙ holds)) in
    absurd (true≢false (sym c.if-not-branch.false ∙ (c.in_ok-is_open.ensures.closed d holds).1 here)))
    c.read_log.ensures.records
