use Rattle.lent_host.specs.Host.{same_loans}
use Rattle.exsm_c.proofs.making.make_kept.Goals as goal

pub returns-clause-image : goal.returns-clause-image
returns-clause-image c = (same_loans c.args.host.now c.format.new.host c.format.ensures.left).image

pub returns-clause-asked : goal.returns-clause-asked
returns-clause-asked c = (same_loans c.args.host.now c.format.new.host c.format.ensures.left).asked

pub returns-clause-file : goal.returns-clause-file
returns-clause-file c = (same_loans c.args.host.now c.format.new.host c.format.ensures.left).file
