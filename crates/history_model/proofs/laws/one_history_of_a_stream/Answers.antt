use Rattle.history_model.proofs.ItemReadings.{one_history}
use Rattle.history_model.proofs.laws.one_history_of_a_stream.Goals as goal

pub returns : goal.returns
returns c = one_history
