use Rattle.file_rooms.proofs.StaysTrue.{found_true}
use Rattle.file_rooms.proofs.truth.a_place_that_was_found_leaves_the_other_pages_true.Goals as goal

pub returns : goal.returns
returns g c = found_true g.P.Ground
