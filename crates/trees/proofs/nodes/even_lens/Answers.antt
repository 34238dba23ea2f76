use Rattle.std.proofs.Common.{arith}
use Rattle.std.proofs.Math.Nat.{le-mul_of_pos_right, mul_comm}
use Rattle.ex_base.specs.Even.{evenly}
use Rattle.trees.proofs.Over.{one_more, all_of, at_parts}
use Rattle.trees.proofs.nodes.even_lens.Goals as goal

pub even_part-requires-clause-fits : goal.even_part-requires-clause-fits
even_part-requires-clause-fits c = omega (arith, le-mul_of_pos_right {m = c.split_parts-parts.result} c.args.count (omega (arith, c.loop-index-test.true)), mul_comm c.args.count c.split_parts-parts.result)

pub loop-index-preserved : goal.loop-index-preserved
loop-index-preserved c =
    one_more (evenly c.split_parts-parts.result c.args.count) c.loop-index.index c.even_part.result c.loop-index.lens.items c.put.new.items.items
    (omega (arith, at_parts c.args.fan c.args.count c.split_parts-parts.result c.split_parts-parts.ensures c.requires.some, c.loop-index-test.true)) c.loop-index.invariant c.even_part.ensures c.in_ok-put.ensures

pub returns : goal.returns
returns c =
    all_of c.args.fan c.args.count c.split_parts-parts.result c.loop-index.index c.loop-index.lens.items c.split_parts-parts.ensures c.requires.some (omega (arith, c.loop-index-test.false)) c.loop-index.invariant
