use Rattle.lent_host.specs.Host.{same_loans}
use Rattle.volume_calls.proofs.lent.step_kept.Goals as goal

pub returns-clause-image : goal.returns-clause-image
returns-clause-image g c = (same_loans c.args.host.now c.step.new.host c.step.ensures.only.left).image

pub returns-clause-asked : goal.returns-clause-asked
returns-clause-asked g c = (same_loans c.args.host.now c.step.new.host c.step.ensures.only.left).asked

pub returns-clause-file : goal.returns-clause-file
returns-clause-file g c = (same_loans c.args.host.now c.step.new.host c.step.ensures.only.left).file

pub returns-clause-steps : goal.returns-clause-steps
returns-clause-steps g c = record {
  stepped = λ before same shows. c.step.ensures.stepped before same shows;
  sound = λ before why same shows is. c.step.ensures.sound before why same shows is;
  any_moment = λ before same shows. c.step.ensures.any_moment before same shows;
  takes_none = c.step.ensures.takes_none;
  unwritten = c.step.ensures.unwritten;
  damaged = c.step.ensures.damaged;
}
