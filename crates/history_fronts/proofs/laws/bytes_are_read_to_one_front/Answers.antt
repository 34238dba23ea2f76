use Rattle.history_fronts.proofs.Follows.{one_front_of}
use Rattle.history_fronts.proofs.laws.bytes_are_read_to_one_front.Goals as goal

pub returns : goal.returns
returns c = one_front_of
