use Rattle.std.proofs.Common.{◌≡◌, take}
use Rattle.ex_base.specs.Even.{evenly}
use Rattle.trees.proofs.nodes.even_lens.Given as goal

abbrev pub invariant-loop-index : goal.invariant-loop-index
invariant-loop-index l = l.lens.items ≡ take l.index (evenly l.parts l.count)
