use Rattle.disk_model.specs.Runs.{goes_trans}
use Rattle.std.proofs.Common.{◌∙◌, ⊎_elim, [], refl, sym, ap, subst, arith, Err}
use Rattle.ex_base.proofs.Results.{if_no_error}
use Rattle.talks.specs.Stops.{IsOpeningStop}
use Rattle.command_line.specs.declared.status.Status.{Status}
use Rattle.runs.proofs.Sending.{at_err}
use Rattle.exsm_run.specs.Generate.{GenPromise}
use Rattle.exsm_run.specs.Script.{status_of}
use Rattle.exsm_run.proofs.Checking.{cut_line, unsent, whole_line}
use Rattle.exsm_run.proofs.Opened.{err_same}
use Rattle.exsm_run.proofs.Generating.{gen_stopped, gen_sent}
use Rattle.exsm_run.proofs.generate.generate.Goals as goal

pub returns-in-Err-clause-promise : goal.returns-in-Err-clause-promise
returns-in-Err-clause-promise g c =
    let promise = c.in-Err.ensures in
    subst (λ (s : Status). GenPromise g.H.World.outside c.args.seed c.args.count (g.H.World.outside c.args.host.now) (g.H.World.outside c.run_talk.new.host) s) (sym c.status_of.ensures)
    (gen_stopped c.args.seed c.args.count c.make-talk.result c.run_talk.new.talk c.in-Err.stopped (g.H.World.is_world c.args.host.now) c.make-talk.ensures.lines promise.whence promise.headline promise.broken promise.on promise.opened)

pub returns-in_default-summary-clause-promise : goal.returns-in_default-summary-clause-promise
returns-in_default-summary-clause-promise g c =
    let promise = c.in_default.ensures in
    gen_sent _ c.args.seed c.args.count c.make-talk.result c.run_talk.new.talk [] (g.H.World.is_world c.run_talk.new.host) promise.goes c.make-talk.ensures.lines c.make-talk.ensures.few c.make-talk.ensures.none
    (λ is replies tally. ⊎_elim (λ done. absurd (cc)) (λ output. absurd (cc)) is) promise.headline promise.over promise.on promise.opened (unsent (g.H.World.outside c.run_talk.new.host) [])

pub returns-then-is_err-clause-output_fault : goal.returns-then-is_err-clause-output_fault
returns-then-is_err-clause-output_fault g c is =
    let rose = at_err c.send_all.result _ (sym c.is_err.ensures.value ∙ c.if-is_err.true) c.send_all.ensures.cause in
    omega (arith, rose, c.run_talk.ensures.goes.write_faults)

pub returns-then-is_err-clause-promise : goal.returns-then-is_err-clause-promise
returns-then-is_err-clause-promise g c =
    let promise = c.in_default.ensures in
    gen_sent _ c.args.seed c.args.count c.make-talk.result c.run_talk.new.talk c.as_bytes.result.now (g.H.World.is_world c.run_talk.new.host) promise.goes c.make-talk.ensures.lines c.make-talk.ensures.few c.make-talk.ensures.none
    (λ is replies tally. c.as_bytes.ensures.value ∙ c.in-Ok.ensures replies tally) promise.headline promise.over promise.on promise.opened
    (cut_line c.as_bytes.result.now c.send_all.ensures.only (at_err c.send_all.result _ (sym c.is_err.ensures.value ∙ c.if-is_err.true) c.send_all.ensures.cause)
    (at_err c.send_all.result _ (sym c.is_err.ensures.value ∙ c.if-is_err.true) c.send_all.ensures.failed))

pub returns-clause-promise : goal.returns-clause-promise
returns-clause-promise g c =
    let promise = c.in_default.ensures in
    gen_sent _ c.args.seed c.args.count c.make-talk.result c.run_talk.new.talk c.as_bytes.result.now (g.H.World.is_world c.run_talk.new.host) promise.goes c.make-talk.ensures.lines c.make-talk.ensures.few c.make-talk.ensures.none
    (λ is replies tally. c.as_bytes.ensures.value ∙ c.in-Ok.ensures replies tally) promise.headline promise.over promise.on promise.opened
    (whole_line c.as_bytes.result.now c.send_all.ensures.only (if_no_error c.send_all.result (sym c.is_err.ensures.value ∙ c.if-is_err.false) c.send_all.ensures.sent))

pub returns-then-is_err-clause-goes : goal.returns-then-is_err-clause-goes
returns-then-is_err-clause-goes g c = goes_trans c.run_talk.ensures.goes c.send_all.ensures.only.goes

pub returns-clause-goes : goal.returns-clause-goes
returns-clause-goes g c = goes_trans c.run_talk.ensures.goes c.send_all.ensures.only.goes

pub returns-in-Err-clause-told : goal.returns-in-Err-clause-told
returns-in-Err-clause-told g c other = c.in-Err.ensures.on.told (λ is. other (c.status_of.ensures ∙ ap (status_of 0) is))

pub returns-in_default-summary-clause-told : goal.returns-in_default-summary-clause-told
returns-in_default-summary-clause-told g c other = c.in_default.ensures.on.told (λ is. cc)

pub returns-then-is_err-clause-told : goal.returns-then-is_err-clause-told
returns-then-is_err-clause-told g c other = c.send_all.ensures.only.disk_faults ∙ c.in_default.ensures.on.told (λ is. cc)

pub returns-clause-told : goal.returns-clause-told
returns-clause-told g c other = c.send_all.ensures.only.disk_faults ∙ c.in_default.ensures.on.told (λ is. cc)
