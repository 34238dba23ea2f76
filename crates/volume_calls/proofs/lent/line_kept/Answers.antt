use Rattle.lent_host.specs.Host.{same_loans}
use Rattle.volume_calls.proofs.lent.line_kept.Goals as goal

pub returns-clause-image : goal.returns-clause-image
returns-clause-image g c = (same_loans c.args.host.now c.step_line.new.host c.step_line.ensures.only.left).image

pub returns-clause-asked : goal.returns-clause-asked
returns-clause-asked g c = (same_loans c.args.host.now c.step_line.new.host c.step_line.ensures.only.left).asked

pub returns-clause-file : goal.returns-clause-file
returns-clause-file g c = (same_loans c.args.host.now c.step_line.new.host c.step_line.ensures.only.left).file

pub returns-clause-steps : goal.returns-clause-steps
returns-clause-steps g c = record {
  answered = λ before reading same shows reads. c.step_line.ensures.answered before reading same shows reads;
  sound = λ before why same shows is. c.step_line.ensures.sound before why same shows is;
  untold = λ before reading same shows reads is. c.step_line.ensures.untold before reading same shows reads is;
  any_moment = λ before reading same shows reads. c.step_line.ensures.any_moment before reading same shows reads;
}
