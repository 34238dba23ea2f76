use Rattle.history_plans.proofs.Filling.{FilledSoFar}
use Rattle.history_plans.proofs.file_pages.pages_filled.Given as goal

abbrev pub invariant-loop-listed : goal.invariant-loop-listed
invariant-loop-listed l = FilledSoFar l.page_size l.records l.listed-index l.room l.pages
