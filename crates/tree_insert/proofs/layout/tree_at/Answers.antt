use Rattle.std.proofs.Common.{arith, length, ◌-◌, refl, subst}
use Rattle.tree_insert.proofs.PlaceLaws.{Passed, passed_more, found_last, found_at}
use Rattle.tree_insert.proofs.layout.tree_at.Goals as goal

pub loop-index-preserved : goal.loop-index-preserved
loop-index-preserved c = passed_more c.args.row.now c.args.pos c.loop-index.index c.loop-index.at (omega (arith, c.loop-index-test.true)) c.if-at-row.false c.loop-index.invariant

pub returns : goal.returns
returns c = found_last c.args.row.now c.args.pos (length c.args.row.now - 1) c.loop-index.at c.requires.some refl c.requires.pos (subst (λ i. Passed c.args.row.now c.args.pos i c.loop-index.at) (omega (arith, c.loop-index-test.false)) c.loop-index.invariant)

pub returns-then-at-row : goal.returns-then-at-row
returns-then-at-row c = found_at c.args.row.now c.args.pos c.loop-index.index c.loop-index.at (omega (arith, c.loop-index-test.true)) c.if-at-row.true c.loop-index.invariant
