use Rattle.std.proofs.Common.{◌-◌}
use Rattle.record_links.proofs.PlaceOrder.{LiesBetween}
use Rattle.record_links.proofs.places.find_place.Given as goal

abbrev pub invariant-halves : goal.invariant-halves
invariant-halves l = LiesBetween l.records l.place l.from l.to

abbrev pub decreases-halves : goal.decreases-halves
decreases-halves l = l.to - l.from
