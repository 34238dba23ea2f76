use Rattle.lent_host.specs.Host.{same_loans}
use Rattle.exsm_c.proofs.making.sum_kept.Goals as goal

pub returns-clause-image : goal.returns-clause-image
returns-clause-image c = (same_loans c.args.host.now c.summary.new.host c.summary.ensures.only.nothing.only.left).image

pub returns-clause-asked : goal.returns-clause-asked
returns-clause-asked c = (same_loans c.args.host.now c.summary.new.host c.summary.ensures.only.nothing.only.left).asked

pub returns-clause-file : goal.returns-clause-file
returns-clause-file c = (same_loans c.args.host.now c.summary.new.host c.summary.ensures.only.nothing.only.left).file

pub returns-clause-sums : goal.returns-clause-sums
returns-clause-sums c = record {
  sums = λ before same shows. c.summary.ensures.sums before same shows;
  shows = λ before same shows. c.summary.ensures.shows before same shows;
}
