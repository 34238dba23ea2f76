use Rattle.runs.proofs.Sourced.{reads_all, reads_some}
use Rattle.clients.proofs.schedule.ScheduleSourceTalk.make.Goals as goal

pub returns-clause-over : goal.returns-clause-over
returns-clause-over c left at over = reads_all (record { none = c.in_ok-make.ensures.ahead; count = c.in_ok-make.ensures.counted; may = c.in_ok-make.ensures.to_take }) over.2

pub returns-clause-broken : goal.returns-clause-broken
returns-clause-broken c left at why broken = reads_some (record { none = c.in_ok-make.ensures.ahead; count = c.in_ok-make.ensures.counted; may = c.in_ok-make.ensures.to_take }) broken.3
