use Rattle.node_walk.specs.Notes.{notes_in}
use Rattle.node_walk.proofs.Roots.{RootsSoFar}
use Rattle.node_walk.proofs.all_trees.walk_grouped.Given as goal

abbrev pub invariant-loop-root : goal.invariant-loop-root
invariant-loop-root g l = RootsSoFar g.P.Ground l.geometry l.fn.pages l.pages l.fn.units l.units l.notes.object (notes_in l.notes.known) l.roots l.root-index l.balanced
