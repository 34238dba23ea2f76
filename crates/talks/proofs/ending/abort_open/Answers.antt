use Rattle.engines.specs.Keeping.{conduct}
use Rattle.table_model.specs.Requests.{Abort}
use Rattle.disk_model.specs.Runs.{goes_refl}
use Rattle.talks.proofs.Going.{aborted}
use Rattle.talks.proofs.Rows.{line_just_kept, step_just_kept}
use Rattle.talks.proofs.Stopping.{session_damaged, session_told}
use Rattle.talks.proofs.ending.abort_open.Goals as goal

pub returns-in-Ok-clause-aborted : goal.returns-in-Ok-clause-aborted
returns-in-Ok-clause-aborted g c before same shows =
    let stepped = c.in-Ok.ensures.stepped before same shows in
    aborted stepped (line_just_kept c.args.host.now c.step.new.host same shows c.step.ensures.only c.in-Ok.ensures.kept stepped)

pub returns-in-Err-clause-stopped : goal.returns-in-Err-clause-stopped
returns-in-Err-clause-stopped g c before same shows = record {
  stop = c.in-Err.stop;
  session = c.step.new.self;
  is = c.stopped_by.ensures;
  kept = step_just_kept c.args.host.now c.step.new.host same shows c.step.ensures.only c.in-Err.ensures.kept;
}

pub returns-in-Err-clause-damaged : goal.returns-in-Err-clause-damaged
returns-in-Err-clause-damaged g c =
    session_damaged (conduct g.H.World.outside g.E.Engine.keeps) Abort c.args.host.now c.step.new.host c.in-Err.stop c.stopped_by.result c.stopped_by.ensures
    (goes_refl (g.H.World.outside c.args.host.now)) c.step.ensures.only c.in-Err.ensures.kept

pub returns-in-Err-clause-told : goal.returns-in-Err-clause-told
returns-in-Err-clause-told g c = λ other. c.in-Err.ensures.told (λ is. other (session_told c.in-Err.stop c.stopped_by.result c.stopped_by.ensures is))
