use Rattle.versions.proofs.Records.{head_there}
use Rattle.versions.proofs.listing.head_of.Goals as goal

pub returns-in-Some-clause-head : goal.returns-in-Some-clause-head
returns-in-Some-clause-head c = head_there c.args.body.now c.in-Some.view _ c.in-Some.ensures.found c.head.ensures
