use Rattle.file_rooms.proofs.StaysTrue.{true_room}
use Rattle.file_rooms.proofs.truth.a_place_is_looked_for_from_a_true_room.Goals as goal

pub returns : goal.returns
returns g c = true_room g.P.Ground
