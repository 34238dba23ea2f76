use Rattle.record_lists.proofs.Bodies.{listed_as}
use Rattle.record_lists.proofs.pages.listed_in.Goals as goal

pub returns-clause-listed : goal.returns-clause-listed
returns-clause-listed c = listed_as c.args.place c.args.body.now c.in_ok-view.view c.head.result c.root_seen.result c.in_ok-view.ensures.found c.head.ensures c.root_seen.ensures
