use Rattle.trees.specs.Names.{names_on}
use Rattle.tree_store.proofs.Counting.{CountedSoFar}
use Rattle.tree_store.proofs.counts.count_names.Given as goal

abbrev pub invariant-loop-index : goal.invariant-loop-index
invariant-loop-index l = CountedSoFar l.geometry (names_on l.bytes) l.fn.units l.index l.units
