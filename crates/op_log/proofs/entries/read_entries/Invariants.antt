use Rattle.op_log.specs.Decoding.{ReadsEntries}
use Rattle.op_log.proofs.entries.read_entries.Given as goal

abbrev pub invariant-loop-i : goal.invariant-loop-i
invariant-loop-i l = ReadsEntries l.geometry.page_size l.kind l.bytes l.start l.i l.at l.entries
