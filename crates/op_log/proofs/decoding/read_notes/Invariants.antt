use Rattle.op_log.specs.Records.{note_bytes, IsNote}
use Rattle.op_log.specs.Decoding.{Reads}
use Rattle.op_log.proofs.decoding.read_notes.Given as goal

abbrev pub invariant-loop-i : goal.invariant-loop-i
invariant-loop-i l = Reads IsNote note_bytes l.bytes l.start 31 l.i l.notes
