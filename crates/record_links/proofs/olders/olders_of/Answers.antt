use Rattle.record_links.proofs.Older.{found_none, found_more, found_all, older_here}
use Rattle.record_links.proofs.olders.olders_of.Goals as goal

pub walk-init : goal.walk-init
walk-init c = found_none c.args.records.now c.in_ok-olders.olders.items c.in_ok-olders.ensures.items

pub returns-in-None-clause-none : goal.returns-in-None-clause-none
returns-in-None-clause-none c = λ are. c.in-None.ensures.none (older_here c.args.records.now c.walk.linked-index _ are c.walk-test.true)

pub walk-preserved : goal.walk-preserved
walk-preserved c = found_more c.args.records.now c.walk.linked-index c.walk.olders.items c.push.new.self.items c.in-Some.older _ c.walk-test.true c.walk.invariant c.in-Some.ensures.found c.in_ok-push-in-Some.ensures.items

pub returns-clause-found : goal.returns-clause-found
returns-clause-found c = found_all c.args.records.now c.walk.linked-index c.walk.olders.items c.walk-test.false c.walk.invariant
