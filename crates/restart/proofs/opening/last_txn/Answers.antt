use Rattle.restart.proofs.LastRecord.{last_here}
use Rattle.restart.proofs.opening.last_txn.Goals as goal

pub returns-in-Some : goal.returns-in-Some
returns-in-Some c = last_here c.args.records.now c.in-Some.record.now c.in-Some.ensures.value
