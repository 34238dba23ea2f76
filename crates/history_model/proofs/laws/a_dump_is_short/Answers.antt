use Rattle.history_model.proofs.Lengths.{is_short}
use Rattle.history_model.proofs.laws.a_dump_is_short.Goals as goal

pub returns : goal.returns
returns c = is_short
