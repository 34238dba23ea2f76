use Rattle.std.proofs.Common.{arith}
use Rattle.ex_base.specs.Even.{least_parts}
use Rattle.ex_base.proofs.NeedLaws.{least_few}
use Rattle.ex_base.proofs.Spread.{least_parts_is, some_part}
use Rattle.trees.proofs.plans.leaves_for.Goals as goal

pub overflow_cast-result : goal.overflow_cast-result
unfolding least_parts
overflow_cast-result c =
    let few = least_few c.args.cap c.args.total c.requires.cap c.requires.total in
    omega (arith, few)

pub returns-clause-holds : goal.returns-clause-holds
unfolding least_parts
returns-clause-holds c = (least_parts_is c.args.cap c.args.total (omega (arith, c.requires.cap))).holds

pub returns-clause-some : goal.returns-clause-some
unfolding least_parts
returns-clause-some c = λ some. some_part c.args.cap c.args.total _ (least_parts_is c.args.cap c.args.total (omega (arith, c.requires.cap))) some
