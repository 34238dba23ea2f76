use Rattle.history_plans.proofs.Walking.{WalkSoFar}
use Rattle.history_plans.proofs.walk.+walk.Given as goal

abbrev pub decreases-walk : goal.decreases-walk
decreases-walk g l = l.level

abbrev pub invariant-loop-child : goal.invariant-loop-child
invariant-loop-child g l = WalkSoFar g.V.Ground l.initial.volume l.volume l.level l.child-items l.child-index l.initial.pieces l.pieces
