use Rattle.volume_model.proofs.OwnersSwept.{committed, lost_first}
use Rattle.volume_model.proofs.a_commit_keeps_owners.Goals as goal

pub returns-clause-lost : goal.returns-clause-lost
returns-clause-lost c = lost_first

pub returns-clause-committed : goal.returns-clause-committed
returns-clause-committed c = committed
