use Rattle.std.proofs.Common.{◌≡◌, ◌<◌, ◌-◌, ℕ, ap, ◌∙◌, arith}
use Rattle.history_volumes.specs.Transcribed.{place_of}
use Rattle.history_writes.specs.Places.{leaf_place, node_place}
use Rattle.history_writes.proofs.Placing.{row_all, row_first, row_more, row_next}
use Rattle.history_writes.proofs.pieces.place_children.Goals as goal

pub loop-index-init : goal.loop-index-init
loop-index-init c = row_first c.args.geometry.now c.args.node.now _ c.clear.ensures.items

pub overflow_sub-pair : goal.overflow_sub-pair
overflow_sub-pair c =
    let next = row_next c.args.geometry.now c.args.node.now c.loop-index.index c.loop-index.last c.loop-index.row.items c.pair-pair.result c.requires c.pair-pair.ensures c.loop-index.invariant in
    let above : c.loop-index.last < c.pair-pair.result.count = next.above in
    omega (arith, above)

pub loop-index-preserved : goal.loop-index-preserved
loop-index-preserved c =
    let height : place_of (leaf_place c.args.geometry.now) node_place (c.level-level.result - 1) c.pair-pair.result.page.0 ≡ place_of (leaf_place c.args.geometry.now) node_place (c.args.node.now.level - 1) c.pair-pair.result.page.0 =
    ap (λ (l : ℕ). place_of (leaf_place c.args.geometry.now) node_place (l - 1) c.pair-pair.result.page.0) c.level-level.ensures in
    row_more c.args.geometry.now c.args.node.now c.loop-index.index c.loop-index.last c.loop-index.row.items c.push.new.self.items c.pair-pair.result c.tree_page.result c.requires c.pair-pair.ensures (c.tree_page.ensures ∙ height) c.loop-index.invariant
    c.in_ok-push.ensures.items

pub returns : goal.returns
returns c =
    row_all c.args.geometry.now c.args.node.now c.loop-index.index c.loop-index.last c.loop-index.row.items c.requires.is.inner (omega (arith, c.loop-index-test.false, c.len-index-end.ensures)) c.loop-index.invariant
