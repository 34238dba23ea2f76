use Rattle.file_rooms.proofs.StaysTrue.{looked_true}
use Rattle.file_rooms.proofs.truth.a_page_that_is_looked_at_is_true.Goals as goal

pub returns : goal.returns
returns g c = looked_true g.P.Ground
