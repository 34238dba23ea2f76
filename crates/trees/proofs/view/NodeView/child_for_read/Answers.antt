use Rattle.std.proofs.Common.{arith}
use Rattle.trees.proofs.Children.{length-counts}
use Rattle.trees.proofs.view.NodeView.child_for_read.Goals as goal

pub start-requires : goal.start-requires
start-requires c = omega (arith, c.first_above-index.ensures.inside, length-counts c.args.self.now.pairs)
