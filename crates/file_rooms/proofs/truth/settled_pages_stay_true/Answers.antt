use Rattle.file_rooms.proofs.StaysTrue.{settled_true}
use Rattle.file_rooms.proofs.truth.settled_pages_stay_true.Goals as goal

pub returns : goal.returns
returns g c = settled_true g.P.Ground
