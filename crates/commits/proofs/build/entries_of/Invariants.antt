use Rattle.commits.proofs.WorkingRows.{AreFirst}
use Rattle.commits.proofs.build.entries_of.Given as goal

abbrev pub invariant-loop-index : goal.invariant-loop-index
invariant-loop-index l = AreFirst l.meta l.index l.pages
