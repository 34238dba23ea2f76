use Rattle.tree_delete.proofs.CutLaws.{place_here, place_more}
use Rattle.tree_delete.proofs.cut.place.Goals as goal

pub returns-then-at-row : goal.returns-then-at-row
returns-then-at-row c = place_here c.args.row.now c.args.pos c.loop-index.index c.loop-index.at c.loop-index-test.true c.if-at-row.true c.loop-index.invariant

pub loop-index-preserved : goal.loop-index-preserved
loop-index-preserved c = place_more c.args.row.now c.args.pos c.loop-index.index c.loop-index.at c.loop-index-test.true c.if-at-row.false c.loop-index.invariant
