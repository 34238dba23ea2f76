use Rattle.node_walk.specs.Notes.{notes_in}
use Rattle.node_walk.proofs.Loops.{WalkSoFar}
use Rattle.node_walk.proofs.walk.+walk.Given as goal

abbrev pub decreases-walk : goal.decreases-walk
decreases-walk g l = l.level

abbrev pub invariant-loop-child : goal.invariant-loop-child
invariant-loop-child g l = WalkSoFar g.P.Ground l.geometry l.initial.pages l.pages l.initial.units l.units (notes_in l.initial.known) (notes_in l.known) l.level l.child-items l.child-index l.balanced
