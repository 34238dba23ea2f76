use Rattle.volume_model.proofs.OwnersSwept.{aborted, gained_first}
use Rattle.volume_model.proofs.an_abort_keeps_owners.Goals as goal

pub returns-clause-gained : goal.returns-clause-gained
returns-clause-gained c = gained_first

pub returns-clause-aborted : goal.returns-clause-aborted
returns-clause-aborted c = aborted
