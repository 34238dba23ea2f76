use Rattle.object_files.proofs.MarkLaws.{DifferSoFar}
use Rattle.object_files.proofs.marks.numbers_differ.Given as goal

abbrev pub invariant-loop-i : goal.invariant-loop-i
invariant-loop-i l = DifferSoFar l.page l.n l.i l.marks
