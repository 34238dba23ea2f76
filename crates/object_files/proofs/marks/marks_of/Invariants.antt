use Rattle.object_files.specs.Marks.{MarksNumbers}
use Rattle.object_files.proofs.marks.marks_of.Given as goal

abbrev pub invariant-loop-i : goal.invariant-loop-i
invariant-loop-i l = MarksNumbers l.page l.i l.marks
