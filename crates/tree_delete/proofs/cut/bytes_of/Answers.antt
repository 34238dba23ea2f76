use Rattle.std.proofs.Common.{rules, ◌+◌}
use Rattle.trees.proofs.Sizes.{front_most}
use Rattle.tree_delete.proofs.CutLaws.{bytes_more}
use Rattle.tree_delete.proofs.cut.bytes_of.Goals as goal

pub overflow_add-bytes : goal.overflow_add-bytes
overflow_add-bytes c =
    let more = bytes_more c.args.row.now c.loop-part.part-index c.loop-part.bytes c.loop-part-test.true c.loop-part.invariant in
    let most = front_most c.args.row.now (c.loop-part.part-index + 1) in
    search rules

pub loop-part-preserved : goal.loop-part-preserved
loop-part-preserved c = bytes_more c.args.row.now c.loop-part.part-index c.loop-part.bytes c.loop-part-test.true c.loop-part.invariant
