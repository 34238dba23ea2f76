use Rattle.history_plans.proofs.Roots.{RecordsSoFar}
use Rattle.history_plans.proofs.files.walk_records.Given as goal

abbrev pub invariant-loop-listed : goal.invariant-loop-listed
invariant-loop-listed g l = RecordsSoFar g.V.Ground l.initial.volume l.volume l.records l.listed-index l.initial.pieces l.pieces
