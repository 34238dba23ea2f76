use Rattle.std.proofs.Common.{ap}
use Rattle.ex_base.proofs.Spread.{evenly_one}
use Rattle.trees.specs.Layout.{in_place}
use Rattle.trees.proofs.plans.one_plan.Goals as goal

pub returns-clause-layout : goal.returns-clause-layout
returns-clause-layout c = ap in_place (evenly_one c.args.total)
