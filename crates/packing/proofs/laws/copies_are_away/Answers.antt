use Rattle.packing.proofs.Away.{away}
use Rattle.packing.proofs.laws.copies_are_away.Goals as goal

pub returns : goal.returns
returns g c = λ s records v shows moves units own. away g.P.Ground s records v shows moves units own
