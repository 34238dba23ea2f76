use Rattle.std.proofs.Common.{arith}
use Rattle.history_items.proofs.WrittenItems.{node_all, node_first, node_more}
use Rattle.history_items.proofs.nodes.write_node.Goals as goal

pub loop-pair-init : goal.loop-pair-init
loop-pair-init c = node_first c.args.out.now c.put_u8.new.bytes c.put_u16.new.bytes c.args.level c.args.pairs.now c.put_u8.ensures c.put_u16.ensures

pub loop-pair-preserved : goal.loop-pair-preserved
loop-pair-preserved c =
    node_more c.args.out.now c.args.level c.args.pairs.now c.loop-pair.pair-index c.loop-pair.at c.loop-pair.out c.write_pair.new.out _ c.loop-pair-test.true c.write_pair.ensures c.loop-pair.invariant

pub returns-clause-written : goal.returns-clause-written
returns-clause-written c =
    node_all c.args.out.now c.args.level c.args.pairs.now c.loop-pair.pair-index c.loop-pair.at c.loop-pair.out (omega (arith, c.loop-pair.auto.pair-index-end, c.loop-pair-test.false)) c.loop-pair.invariant
