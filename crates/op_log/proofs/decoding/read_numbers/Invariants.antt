use Rattle.op_log.specs.Records.{number_bytes}
use Rattle.op_log.specs.Decoding.{Reads, FitsNumber}
use Rattle.op_log.proofs.decoding.read_numbers.Given as goal

abbrev pub invariant-loop-i : goal.invariant-loop-i
invariant-loop-i l = Reads FitsNumber number_bytes l.bytes l.start 4 l.i l.pages
