use Rattle.ex_base.proofs.Handed.{no_value, not_given}
use Rattle.op_log.proofs.Outcomes.{err_is, ok_of}
use Rattle.std.proofs.Common.{◌≡◌, arith}
use Rattle.std.proofs.lemmas.Result.{IfOk-weaker}
use Rattle.disk_model.specs.Runs.{reads_refl, no_calls, calls_at_most, at_most_wider}
use Rattle.op_log.specs.declared.scan.LogFault.TheVariants.{Memory, Disk, Bad}
use Rattle.op_log.proofs.scan.read_log.Goals as goal

pub returns-in_err-log-clause-once : goal.returns-in_err-log-clause-once
returns-in_err-log-clause-once g c = not_given c.from_residual.result _ Memory c.from_residual.ensures.1

pub returns-in_err-log-clause-each : goal.returns-in_err-log-clause-each
returns-in_err-log-clause-each g c = no_value c.from_residual.result _ Memory c.from_residual.ensures.1

pub returns-in_err-log-clause-inside : goal.returns-in_err-log-clause-inside
returns-in_err-log-clause-inside g c = no_value c.from_residual.result _ Memory c.from_residual.ensures.1

pub returns-in_err-log-clause-records : goal.returns-in_err-log-clause-records
returns-in_err-log-clause-records g c = no_value c.from_residual.result _ Memory c.from_residual.ensures.1

pub returns-in_err-log-clause-bad : goal.returns-in_err-log-clause-bad
returns-in_err-log-clause-bad g c = λ at is. absurd (let e : Memory ≡ Bad at = err_is c.from_residual.result Memory (Bad at) c.from_residual.ensures.1 is in cc)

pub returns-in_err-read-clause-once : goal.returns-in_err-read-clause-once
returns-in_err-read-clause-once g c = not_given c.from_residual-in_err-read.result _ Disk c.from_residual-in_err-read.ensures.1

pub returns-in_err-read-clause-each : goal.returns-in_err-read-clause-each
returns-in_err-read-clause-each g c = no_value c.from_residual-in_err-read.result _ Disk c.from_residual-in_err-read.ensures.1

pub returns-in_err-read-clause-inside : goal.returns-in_err-read-clause-inside
returns-in_err-read-clause-inside g c = no_value c.from_residual-in_err-read.result _ Disk c.from_residual-in_err-read.ensures.1

pub returns-in_err-read-clause-records : goal.returns-in_err-read-clause-records
returns-in_err-read-clause-records g c = no_value c.from_residual-in_err-read.result _ Disk c.from_residual-in_err-read.ensures.1

pub returns-in_err-read-clause-bad : goal.returns-in_err-read-clause-bad
returns-in_err-read-clause-bad g c = λ at is. absurd (let e : Disk ≡ Bad at = err_is c.from_residual-in_err-read.result Disk (Bad at) c.from_residual-in_err-read.ensures.1 is in cc)

pub returns-in_err-log-clause-only : goal.returns-in_err-log-clause-only
returns-in_err-log-clause-only g c = reads_refl (g.D.World.outside c.args.disk.now)

pub returns-in_err-log-clause-at_most_once : goal.returns-in_err-log-clause-at_most_once
returns-in_err-log-clause-at_most_once g c = at_most_wider 1 (omega arith) (calls_at_most (no_calls (g.D.World.outside c.args.disk.now)))

pub returns-in_err-log-clause-disk : goal.returns-in_err-log-clause-disk
returns-in_err-log-clause-disk g c = λ is. absurd (let e : Memory ≡ Disk = err_is c.from_residual.result Memory Disk c.from_residual.ensures.1 is in cc)

pub returns-in_err-read-clause-only : goal.returns-in_err-read-clause-only
returns-in_err-read-clause-only g c = c.read.ensures.only

pub returns-in_err-read-clause-at_most_once : goal.returns-in_err-read-clause-at_most_once
returns-in_err-read-clause-at_most_once g c = c.read.ensures.at_most_once

pub returns-in_err-read-clause-disk : goal.returns-in_err-read-clause-disk
returns-in_err-read-clause-disk g c = λ is. c.in_err-read.ensures.cause

pub returns-clause-only : goal.returns-clause-only
returns-clause-only g c = c.read.ensures.only

pub returns-clause-at_most_once : goal.returns-clause-at_most_once
returns-clause-at_most_once g c = c.read.ensures.at_most_once

pub returns-clause-once : goal.returns-clause-once
returns-clause-once g c = ok_of c.read_records.result _ c.in_ok-read.ensures.once

pub returns-clause-each : goal.returns-clause-each
returns-clause-each g c = IfOk-weaker c.read_records.result _ _ (λ found spells. spells.each) c.read_records.ensures.records

pub returns-clause-inside : goal.returns-clause-inside
returns-clause-inside g c = c.read_records.ensures.inside

pub returns-clause-disk : goal.returns-clause-disk
returns-clause-disk g c = λ is. absurd (c.read_records.ensures.no_disk is)
