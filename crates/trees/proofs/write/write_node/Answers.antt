use Rattle.std.proofs.Common.{ℕ, ◌+◌, get_or, rules, sym, subst, arith}
use Rattle.trees.proofs.Reading.{no_part}
use Rattle.trees.proofs.WriteLaws.{SoFar, so_far_more, so_far_all, sum_fits}
use Rattle.trees.proofs.write.write_node.Goals as goal

pub overflow_add-count : goal.overflow_add-count
overflow_add-count c =
    let le = sum_fits c.args.out.now c.args.level c.args.row.now c.loop-part.part-index c.loop-part.count c.loop-part.at c.loop-part.out c.loop-part-test.true c.loop-part.invariant in
    search rules

pub loop-part-preserved : goal.loop-part-preserved
loop-part-preserved c =
    subst (λ (k : ℕ). SoFar c.args.out.now c.args.level c.args.row.now (c.loop-part.part-index + 1) (c.loop-part.count + (get_or c.args.row.now c.loop-part.part-index no_part).size) (c.loop-part.at + k) c.write_pair.new.out) (sym c.pair_len-at.ensures)
    (so_far_more c.args.out.now c.args.level c.args.row.now c.loop-part.part-index c.loop-part.count c.loop-part.at c.loop-part.out c.write_pair.new.out c.loop-part-test.true c.write_pair.ensures c.loop-part.invariant)

pub returns-clause-page : goal.returns-clause-page
returns-clause-page c =
    so_far_all c.args.out.now c.args.level c.args.row.now c.loop-part.part-index c.loop-part.count c.loop-part.at c.loop-part.out c.clear_from.new.bytes (omega (arith, c.loop-part.auto.part-index-end, c.loop-part-test.false)) (omega (arith, c.requires.room)) c.clear_from.ensures c.loop-part.invariant
