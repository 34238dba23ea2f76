use Rattle.std.proofs.Common.{◌∙◌, Err, refl, sym}
use Rattle.ex_base.proofs.Results.{if_no_error}
use Rattle.runs.proofs.Sending.{at_err}
use Rattle.command_line.specs.declared.status.Status.TheVariants as status
use Rattle.exsm_run.specs.Check.{counts_line}
use Rattle.exsm_run.proofs.Checking.{check_stopped, check_sent, cut_line, unsent, whole_line}
use Rattle.exsm_run.proofs.Opened.{err_same}
use Rattle.exsm_run.proofs.check.checked.Goals as goal

pub returns-in-Err-clause-promise : goal.returns-in-Err-clause-promise
returns-in-Err-clause-promise g c =
    check_stopped c.in-Err.status c.counted.ensures.only c.in-Err.ensures.stops c.in-Err.ensures.counts c.counted.ensures.any_moment c.in-Err.ensures.writes
    c.in-Err.ensures.opening

pub returns-in_default-clause-promise : goal.returns-in_default-clause-promise
returns-in_default-clause-promise g c =
    let s = c.in-Ok.summary in
    check_sent _ s (counts_line s.last s.files s.objects s.versions s.pages s.segs) (g.H.World.is_world c.counted.new.host) c.counted.ensures.only c.in-Ok.ensures.counts c.counted.ensures.any_moment
    c.in-Ok.ensures.writes c.in-Ok.ensures.opened refl (unsent (g.H.World.outside c.counted.new.host) _)

pub returns-then-is_err-clause-promise : goal.returns-then-is_err-clause-promise
returns-then-is_err-clause-promise g c =
    let s = c.in-Ok.summary in
    check_sent _ s c.as_bytes.result.now (g.H.World.is_world c.counted.new.host) c.counted.ensures.only c.in-Ok.ensures.counts c.counted.ensures.any_moment
    c.in-Ok.ensures.writes c.in-Ok.ensures.opened (c.as_bytes.ensures.value ∙ c.in-Ok-line_of.ensures)
    (cut_line c.as_bytes.result.now c.send_all.ensures.only (at_err c.send_all.result _ (sym c.is_err.ensures.value ∙ c.if-is_err.true) c.send_all.ensures.cause)
    (at_err c.send_all.result _ (sym c.is_err.ensures.value ∙ c.if-is_err.true) c.send_all.ensures.failed))

pub returns-clause-promise : goal.returns-clause-promise
returns-clause-promise g c =
    let s = c.in-Ok.summary in
    check_sent _ s c.as_bytes.result.now (g.H.World.is_world c.counted.new.host) c.counted.ensures.only c.in-Ok.ensures.counts c.counted.ensures.any_moment
    c.in-Ok.ensures.writes c.in-Ok.ensures.opened (c.as_bytes.ensures.value ∙ c.in-Ok-line_of.ensures)
    (whole_line c.as_bytes.result.now c.send_all.ensures.only (if_no_error c.send_all.result (sym c.is_err.ensures.value ∙ c.if-is_err.false) c.send_all.ensures.sent))

pub returns-in-Err-clause-told : goal.returns-in-Err-clause-told
returns-in-Err-clause-told g c other = c.in-Err.ensures.told (λ is. other (err_same (Err c.in-Err.status) (Err status.DiskFault) refl refl is))

pub returns-in_default-clause-told : goal.returns-in_default-clause-told
returns-in_default-clause-told g c other = c.in-Ok.ensures.told (λ is. cc)

pub returns-then-is_err-clause-told : goal.returns-then-is_err-clause-told
returns-then-is_err-clause-told g c other = c.send_all.ensures.only.disk_faults ∙ c.in-Ok.ensures.told (λ is. cc)

pub returns-clause-told : goal.returns-clause-told
returns-clause-told g c other = c.send_all.ensures.only.disk_faults ∙ c.in-Ok.ensures.told (λ is. cc)
