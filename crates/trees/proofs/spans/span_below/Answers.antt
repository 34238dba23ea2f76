use Rattle.trees.proofs.SpanLaws.{span_here}
use Rattle.trees.proofs.Children.{length-counts}
use Rattle.std.proofs.Common.{arith}
use Rattle.trees.proofs.spans.span_below.Goals as goal

pub overflow_add-last : goal.overflow_add-last
overflow_add-last c = omega (arith, c.child_for_read-last.ensures.first.inside, length-counts c.args.node.now.pairs, c.requires.few)

pub returns : goal.returns
returns c =
    span_here c.args.node.now.pairs c.args.pos c.args.len c.child_for_read-first.result.0 c.child_for_read-last.result.0 c.child_for_read-first.result.1 c.in_ok-row.row.items c.requires.rise c.requires.some
    c.child_for_read-first.ensures.first c.child_for_read-first.ensures.inside c.child_for_read-last.ensures.first c.in_ok-row.ensures
