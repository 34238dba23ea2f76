use Rattle.std.proofs.Common.{◌-◌}
use Rattle.history_links.proofs.NumberOrder.{LiesBetween}
use Rattle.history_links.proofs.numbers.find_number.Given as goal

abbrev pub invariant-halves : goal.invariant-halves
invariant-halves l = LiesBetween l.versions l.number l.from l.to

abbrev pub decreases-halves : goal.decreases-halves
decreases-halves l = l.to - l.from
