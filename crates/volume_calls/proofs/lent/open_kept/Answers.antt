use Rattle.lent_host.specs.Host.{same_loans}
use Rattle.volume_calls.proofs.lent.open_kept.Goals as goal

pub returns-clause-image : goal.returns-clause-image
returns-clause-image g c = (same_loans c.args.host.now c.open.new.host c.open.ensures.only.left).image

pub returns-clause-asked : goal.returns-clause-asked
returns-clause-asked g c = (same_loans c.args.host.now c.open.new.host c.open.ensures.only.left).asked

pub returns-clause-file : goal.returns-clause-file
returns-clause-file g c = (same_loans c.args.host.now c.open.new.host c.open.ensures.only.left).file

pub returns-clause-opens : goal.returns-clause-opens
returns-clause-opens g c = record {
  stands = c.open.ensures.opened;
  shows = λ image table honest holds stands. c.open.ensures.shows image table honest holds stands;
  bad = λ part is image holds. c.open.ensures.bad part is image holds;
  kept = λ part is honest image holds. c.open.ensures.kept part is honest image holds;
  any_moment = λ image honest holds. c.open.ensures.any_moment image honest holds;
}
