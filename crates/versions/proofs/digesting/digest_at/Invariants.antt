use Rattle.std.proofs.Common.{◌-◌}
use Rattle.versions.proofs.Fed.{FedTo}
use Rattle.versions.proofs.digesting.digest_at.Given as goal

abbrev pub invariant-pieces : goal.invariant-pieces
invariant-pieces g l = FedTo g.V.Ground l.initial.volume l.volume l.oid l.size l.at l.hasher

abbrev pub decreases-pieces : goal.decreases-pieces
decreases-pieces g l = l.size - l.at
