use Rattle.file_rooms.proofs.StaysTrue.{nothing_true}
use Rattle.file_rooms.proofs.truth.nothing_is_true.Goals as goal

pub returns : goal.returns
returns g c = nothing_true g.P.Ground
