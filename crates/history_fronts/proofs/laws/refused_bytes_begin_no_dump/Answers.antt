use Rattle.history_fronts.proofs.Begins.{none_begins}
use Rattle.history_fronts.proofs.laws.refused_bytes_begin_no_dump.Goals as goal

pub returns : goal.returns
returns c = none_begins
