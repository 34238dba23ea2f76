use Rattle.compact.specs.Found.{seen_in}
use Rattle.compact.proofs.Finding.{CountSoFar}
use Rattle.compact.proofs.high.+find_high.Given as goal

abbrev pub decreases-find_high : goal.decreases-find_high
decreases-find_high g l = l.level

abbrev pub invariant-loop-child : goal.invariant-loop-child
invariant-loop-child g l = CountSoFar g.B.Ground l.fn.blocks l.blocks l.dense l.level (seen_in l.fn.found) (seen_in l.found) l.fn.found.above.items l.found.above.items l.child-items l.child-index l.high
