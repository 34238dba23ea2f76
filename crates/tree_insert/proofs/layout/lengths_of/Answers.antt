use Rattle.std.proofs.Common.{arith}
use Rattle.tree_insert.proofs.PlanLaws.{all_lengths, more_lengths}
use Rattle.tree_insert.proofs.layout.lengths_of.Goals as goal

pub loop-index-preserved : goal.loop-index-preserved
loop-index-preserved c = more_lengths c.args.cap c.args.plan.now c.loop-index.index c.length.result c.loop-index.lengths.items c.put.new.items.items c.requires.cap c.requires.plan c.loop-index-test.true c.loop-index.invariant c.length.ensures c.in_ok-put.ensures

pub returns : goal.returns
returns c = all_lengths c.args.cap c.args.plan.now c.loop-index.index c.loop-index.lengths.items c.requires.cap c.requires.plan (omega (arith, c.loop-index-test.false)) c.loop-index.invariant
