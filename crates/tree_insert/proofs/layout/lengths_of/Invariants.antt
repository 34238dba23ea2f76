use Rattle.std.proofs.Common.{◌≡◌, take}
use Rattle.trees.specs.Layout.{layout_of}
use Rattle.tree_insert.proofs.layout.lengths_of.Given as goal

abbrev pub invariant-loop-index : goal.invariant-loop-index
invariant-loop-index l = l.lengths.items ≡ take l.index (layout_of l.cap l.plan).lengths
