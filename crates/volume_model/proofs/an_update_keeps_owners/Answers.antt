use Rattle.volume_model.proofs.OwnersMade.{few_counted, nodes_made}
use Rattle.volume_model.proofs.OwnersSwept.{swept}
use Rattle.volume_model.proofs.an_update_keeps_owners.Goals as goal

pub returns-clause-made : goal.returns-clause-made
returns-clause-made c = nodes_made

pub returns-clause-counted : goal.returns-clause-counted
returns-clause-counted c = few_counted

pub returns-clause-swept : goal.returns-clause-swept
returns-clause-swept c = swept
