use Rattle.packing.proofs.OneObject.{AreOfOneTo}
use Rattle.packing.proofs.volume.object_end.Given as goal

abbrev pub invariant-walk : goal.invariant-walk
invariant-walk l = AreOfOneTo l.versions l.from l.end
