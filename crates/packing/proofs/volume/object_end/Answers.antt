use Rattle.std.proofs.Common.{sym, arith}
use Rattle.packing.proofs.OneObject.{first_of_one, next_of_one, of_another}
use Rattle.packing.proofs.volume.object_end.Goals as goal

pub walk-init : goal.walk-init
walk-init c = first_of_one c.args.versions.now c.args.from

pub returns-then-versions-end-clause-same : goal.returns-then-versions-end-clause-same
returns-then-versions-end-clause-same c = c.walk.invariant.same

pub returns-then-versions-end-clause-other : goal.returns-then-versions-end-clause-other
returns-then-versions-end-clause-other c = λ below. of_another c.args.versions.now c.args.from c.walk.end _ _ c.requires c.walk-test.true (λ same. c.if-versions-end.true (sym same))

pub walk-preserved : goal.walk-preserved
walk-preserved c = next_of_one c.args.versions.now c.args.from c.walk.end _ _ (sym c.if-versions-end.false) c.walk.invariant

pub returns-clause-same : goal.returns-clause-same
returns-clause-same c = λ k high low. c.walk.invariant.same k high (omega (arith, low, c.walk-test.false))

pub returns-clause-other : goal.returns-clause-other
returns-clause-other c = λ below. absurd (omega (arith, below))
