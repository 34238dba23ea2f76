use Rattle.std.proofs.Common.{Some, arith}
use Rattle.session_core.proofs.TakingOut.{none_next}
use Rattle.session_core.proofs.session.turning.place_of.Goals as goal

pub loop-at-preserved : goal.loop-at-preserved
loop-at-preserved c = none_next c.args.roots.now c.loop-at.at _ (Some c.args.root.now) (omega (arith, c.loop-at-test.true)) c.loop-at.invariant (c.same_page.ensures.apart c.if-same_page.false)
