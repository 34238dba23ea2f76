use Rattle.std.proofs.Common.{arith}
use Rattle.generated.proofs.Turns.{lines_due, lines_next}
use Rattle.generated.proofs.stage.Stage.before.Goals.{else-index-gt0-via-then-index-gt0+else-index-eq0, else-index-gt0-via-else-index-gt0}
use Rattle.generated.proofs.stage.Stage.before.Goals as goal

pub returns-then-index-eq0-clause-lines : goal.returns-then-index-eq0-clause-lines
returns-then-index-eq0-clause-lines c basis = lines_due c.args.index c.args.count basis (omega arith) (omega arith) c.if-index-eq0.true

pub returns-else-index-gt0-clause-lines : goal.returns-else-index-gt0-clause-lines
returns-else-index-gt0-clause-lines c basis = lines_next c.args.index c.args.count basis (omega arith)
    (λ some is. elim c.else-index-gt0.branch [ else-index-gt0-via-then-index-gt0+else-index-eq0 w ↦ w.if-index-eq0.false is | else-index-gt0-via-else-index-gt0 w ↦ absurd (omega arith) ])
