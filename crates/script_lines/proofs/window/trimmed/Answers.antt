use Rattle.script_lines.proofs.Returns.{return_dropped, return_missing}
use Rattle.script_lines.proofs.window.trimmed.Goals as goal

pub returns-then-last-eq13-clause-value : goal.returns-then-last-eq13-clause-value
returns-then-last-eq13-clause-value c = return_dropped c.args.bytes.now (rw c.if-last-eq13.true at c.in-Some.ensures.value)

pub returns-else-last-eq13-clause-value : goal.returns-else-last-eq13-clause-value
returns-else-last-eq13-clause-value c = return_missing c.args.bytes.now c.in-Some.last.now c.in-Some.ensures.value c.if-last-eq13.false
