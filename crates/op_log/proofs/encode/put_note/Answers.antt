use Rattle.op_log.proofs.Writing.{puts_then, puts_for}
use Rattle.op_log.proofs.encode.put_note.Goals as goal

pub returns-clause-puts : goal.returns-clause-puts
returns-clause-puts c = puts_for (puts_then _ _ (puts_then _ _ (puts_then _ _ (puts_then _ _ (puts_then _ _ c.put_run-at.ensures.puts c.put_four-at.ensures.puts) c.put_two-at.ensures.puts) c.put_eight-at.ensures.puts) c.put_eight-at-2.ensures.puts) c.put_eight.ensures.puts) (cc c.number.ensures)
