use Rattle.commits.proofs.WorkingRows.{AreGiven}
use Rattle.commits.proofs.build.freed_of.Given as goal

abbrev pub invariant-loop-index : goal.invariant-loop-index
invariant-loop-index l = AreGiven l.meta.working l.index l.pages
