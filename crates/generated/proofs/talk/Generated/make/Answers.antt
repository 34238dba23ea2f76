use Rattle.std.proofs.Common.{length, ap, arith}
use Rattle.generated.proofs.Counting.{few_generated}
use Rattle.generated.proofs.talk.Generated.make.Goals as goal

pub returns-clause-few : goal.returns-clause-few
returns-clause-few c = omega (arith, few_generated c.args.seed c.args.count, ap length c.make.ensures, c.ranges.count.fits)
