use Rattle.file_rooms.proofs.StaysTrue.{back_true}
use Rattle.file_rooms.proofs.truth.pages_that_go_back_are_true.Goals as goal

pub returns : goal.returns
returns g c = back_true g.P.Ground
