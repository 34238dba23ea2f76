use Rattle.history_fronts.proofs.Dumped.{dumps_lead}
use Rattle.history_fronts.proofs.laws.dumps_lead_to_their_end.Goals as goal

pub returns : goal.returns
returns c = dumps_lead
