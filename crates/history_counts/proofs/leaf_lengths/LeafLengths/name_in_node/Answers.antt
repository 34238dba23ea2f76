use Rattle.history_counts.proofs.Noted.{node_more, node_next}
use Rattle.history_counts.proofs.leaf_lengths.LeafLengths.name_in_node.Goals as goal
use Rattle.std.proofs.Common.{◌<◌, arith}

pub overflow_sub-pair : goal.overflow_sub-pair
overflow_sub-pair c =
    let next = node_next c.args.self.now c.loop-i.self c.args.node.now.pairs c.loop-i.i c.loop-i.last c.pair-pair.result c.pair-pair.ensures c.loop-i.invariant in
    let above : c.loop-i.last < c.pair-pair.result.count = next.above in
    omega arith

pub raise-requires-clause-some : goal.raise-requires-clause-some
raise-requires-clause-some c = (node_next c.args.self.now c.loop-i.self c.args.node.now.pairs c.loop-i.i c.loop-i.last c.pair-pair.result c.pair-pair.ensures c.loop-i.invariant).some

pub raise-requires-clause-there : goal.raise-requires-clause-there
raise-requires-clause-there c =
    let next = node_next c.args.self.now c.loop-i.self c.args.node.now.pairs c.loop-i.i c.loop-i.last c.pair-pair.result c.pair-pair.ensures c.loop-i.invariant in
    omega (arith, next.there, c.loop-i.invariant.len)

pub loop-i-preserved : goal.loop-i-preserved
loop-i-preserved c = node_more c.args.self.now c.loop-i.self c.raise.new.self c.args.node.now.pairs c.loop-i.i c.loop-i.last c.pair-pair.result c.pair-pair.ensures c.loop-i.invariant c.raise.ensures
