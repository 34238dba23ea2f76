use Rattle.commits.proofs.WorkingRows.{AreImages}
use Rattle.commits.proofs.build.images_of.Given as goal

abbrev pub invariant-loop-index : goal.invariant-loop-index
invariant-loop-index l = AreImages l.meta.working l.index l.pages
