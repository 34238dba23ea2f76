use Rattle.history_plans.proofs.Roots.{FilesSoFar}
use Rattle.history_plans.proofs.files.plan_files.Given as goal

abbrev pub invariant-loop-number : goal.invariant-loop-number
invariant-loop-number g l = FilesSoFar g.V.Ground l.initial.volume l.volume l.numbers l.number-index l.initial.pieces l.pieces l.pages
