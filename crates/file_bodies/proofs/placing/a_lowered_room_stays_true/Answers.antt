use Rattle.file_bodies.proofs.Placed.{lowered_true}
use Rattle.file_bodies.proofs.placing.a_lowered_room_stays_true.Goals as goal

pub returns : goal.returns
returns g c = lowered_true g.P.Ground
