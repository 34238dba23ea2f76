use Rattle.clients.proofs.Owners.{others_see, owner_follows}
use Rattle.clients.proofs.laws.the_owner_has_the_transaction.Goals as goal

pub returns-clause-follows : goal.returns-clause-follows
returns-clause-follows c = owner_follows

pub returns-clause-others_see_what_is_committed : goal.returns-clause-others_see_what_is_committed
returns-clause-others_see_what_is_committed c = others_see
