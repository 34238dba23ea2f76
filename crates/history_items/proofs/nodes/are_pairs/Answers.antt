use Rattle.std.proofs.Common.{Bool, ◌&&◌, ◌-◌, ◌+◌, ◌*◌, drop, sym, ap, ◌∙◌}
use Rattle.trees.specs.declared.width.Width.TheVariants.{Wide}
use Rattle.trees.specs.Node.{read_pairs}
use Rattle.history_items.specs.Reads.{are_good_pairs}
use Rattle.history_items.proofs.NodeItems.{pairs_step}
use Rattle.history_items.proofs.nodes.are_pairs.Goals as goal

pub returns-then-not-is_pair : goal.returns-then-not-is_pair
returns-then-not-is_pair c =
    let step = pairs_step c.args.most c.args.n c.loop-i.i c.loop-i.last c.get_u64-count.result c.get_u32-child.result c.args.bytes.now c.loop-i-test.true c.get_u64-count.ensures c.get_u32-child.ensures in
    sym (c.loop-i.invariant ∙ step ∙ ap (λ (b : Bool). b && are_good_pairs c.args.most c.get_u64-count.result (read_pairs Wide (c.args.n - (c.loop-i.i + 1)) (drop (12 * (c.loop-i.i + 1)) c.args.bytes.now))) (sym c.is_pair.ensures ∙ c.if-not-is_pair.true))

pub loop-i-preserved : goal.loop-i-preserved
loop-i-preserved c =
    let step = pairs_step c.args.most c.args.n c.loop-i.i c.loop-i.last c.get_u64-count.result c.get_u32-child.result c.args.bytes.now c.loop-i-test.true c.get_u64-count.ensures c.get_u32-child.ensures in
    c.loop-i.invariant ∙ step ∙ ap (λ (b : Bool). b && are_good_pairs c.args.most c.get_u64-count.result (read_pairs Wide (c.args.n - (c.loop-i.i + 1)) (drop (12 * (c.loop-i.i + 1)) c.args.bytes.now))) (sym c.is_pair.ensures ∙ c.if-not-is_pair.false)
