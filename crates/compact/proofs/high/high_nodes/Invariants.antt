use Rattle.compact.specs.Found.{seen_in}
use Rattle.compact.proofs.RootCounts.{RootsSoFar}
use Rattle.compact.proofs.high.high_nodes.Given as goal

abbrev pub invariant-loop-root : goal.invariant-loop-root
invariant-loop-root g l = RootsSoFar g.B.Ground l.fn.blocks l.blocks l.dense (seen_in l.found) l.found.above.items l.roots l.root-index
