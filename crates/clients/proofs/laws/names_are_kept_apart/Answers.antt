use Rattle.clients.proofs.Names.{names_are_read_back, names_differ}
use Rattle.clients.proofs.laws.names_are_kept_apart.Goals as goal

pub returns-clause-read_back : goal.returns-clause-read_back
returns-clause-read_back c = names_are_read_back

pub returns-clause-differ : goal.returns-clause-differ
returns-clause-differ c = names_differ
