use Rattle.disk_model.specs.Runs.{goes_trans}
use Rattle.std.proofs.Common.{◌∙◌, List, ℕ, Err, arith, refl, sym, ap, subst}
use Rattle.ex_base.proofs.Results.{if_no_error}
use Rattle.runs.proofs.Sending.{at_err}
use Rattle.command_line.specs.declared.status.Status.{Status}
use Rattle.command_line.specs.declared.status.Status.TheVariants as status
use Rattle.session_views.specs.declared.opener.OpenFault.TheVariants as open_fault
use Rattle.history_load.specs.declared.faults.LoadFault.TheVariants as fault
use Rattle.exsm_run.specs.Load.{LoadPromise}
use Rattle.exsm_run.proofs.Checking.{cut_line, whole_line}
use Rattle.exsm_run.proofs.Loading.{line_told, load_failed, load_refused, load_sent, load_unopened, load_unread, taking_of}
use Rattle.exsm_run.proofs.Opened.{err_same}
use Rattle.exsm_run.proofs.load.loaded.Goals as goal

pub returns-in-Err-clause-promise : goal.returns-in-Err-clause-promise
returns-in-Err-clause-promise g c =
    load_unopened c.in-Err.status (g.H.World.is_world c.args.host.now) (g.H.World.is_world c.opened.new.host) c.opened.ensures.only c.in-Err.ensures.stops c.in-Err.ensures.rests c.opened.ensures.any_moment c.in-Err.ensures.opening

pub returns-in-Err-read-clause-promise : goal.returns-in-Err-read-clause-promise
returns-in-Err-read-clause-promise g c =
    subst (λ (s : Status). LoadPromise (g.H.World.outside c.args.host.now) (g.H.World.outside c.is_empty-read.new.disk) s) (sym c.status_unopened.ensures)
    (load_unread (record {
      world = g.H.World.is_world c.args.host.now;
      opening = c.opened.ensures.only;
      rests = c.in-Ok.ensures.rests;
      moments = c.opened.ensures.any_moment;
      stood = c.in-Ok.ensures.stood;
      reads = c.is_empty-read.ensures.only;
    }) (g.H.World.is_world c.is_empty-read.new.disk) c.in-Err-read.fault (λ is. c.in-Err-read.ensures.cause (ap (λ f. Err f) is)) (λ part is. c.in-Err-read.ensures.fine part (ap (λ f. Err f) is)))

pub returns-then-not-empty-clause-promise : goal.returns-then-not-empty-clause-promise
returns-then-not-empty-clause-promise g c =
    load_refused (record {
      world = g.H.World.is_world c.args.host.now;
      opening = c.opened.ensures.only;
      rests = c.in-Ok.ensures.rests;
      moments = c.opened.ensures.any_moment;
      stood = c.in-Ok.ensures.stood;
      reads = c.is_empty-read.ensures.only;
    }) c.in-Ok-read.empty c.in-Ok-read.ensures.empty (g.H.World.is_world c.is_empty-read.new.disk) c.if-not-empty.true

pub returns-in-Err-loading-clause-promise : goal.returns-in-Err-loading-clause-promise
returns-in-Err-loading-clause-promise g c =
    subst (λ (s : Status). LoadPromise (g.H.World.outside c.args.host.now) (g.H.World.outside c.load_stream-loading.new.host) s) (sym c.status_unloaded.ensures)
    (load_failed c.in-Err-loading.fault (taking_of (record {
      world = g.H.World.is_world c.args.host.now;
      opening = c.opened.ensures.only;
      rests = c.in-Ok.ensures.rests;
      moments = c.opened.ensures.any_moment;
      stood = c.in-Ok.ensures.stood;
      reads = c.is_empty-read.ensures.only;
    }) c.in-Ok-read.empty c.in-Ok-read.ensures.empty (c.if-not-empty.false) c.load_stream-loading.ensures.only c.load_stream-loading.ensures.any_moment c.load_stream-loading.ensures.draws) c.in-Err-loading.ensures.cause c.in-Err-loading.ensures.kept
    (λ h stream image is. c.in-Err-loading.ensures.refused h stream image (ap (λ f. Err f) is)))

pub returns-then-is_err-clause-promise : goal.returns-then-is_err-clause-promise
returns-then-is_err-clause-promise g c =
    load_sent _ (record {
      taking = taking_of (record {
        world = g.H.World.is_world c.args.host.now;
        opening = c.opened.ensures.only;
        rests = c.in-Ok.ensures.rests;
        moments = c.opened.ensures.any_moment;
        stood = c.in-Ok.ensures.stood;
        reads = c.is_empty-read.ensures.only;
      }) c.in-Ok-read.empty c.in-Ok-read.ensures.empty (c.if-not-empty.false) c.load_stream-loading.ensures.only c.load_stream-loading.ensures.any_moment c.load_stream-loading.ensures.draws;
      world = g.H.World.is_world c.load_stream-loading.new.host;
      done = c.in-Ok-loading.ensures.done;
      fits = c.in-Ok-loading.ensures.fits;
      sent = line_told _ c.as_bytes.result.now _ (c.as_bytes.ensures.value ∙ c.as_str.ensures.value ∙ c.line_of-line.ensures)
          (cut_line c.as_bytes.result.now c.send_all.ensures.only (at_err c.send_all.result _ (sym c.is_err.ensures.value ∙ c.if-is_err.true) c.send_all.ensures.cause)
          (at_err c.send_all.result _ (sym c.is_err.ensures.value ∙ c.if-is_err.true) c.send_all.ensures.failed));
      made = λ is. cc;
    })

pub returns-clause-promise : goal.returns-clause-promise
returns-clause-promise g c =
    load_sent _ (record {
      taking = taking_of (record {
        world = g.H.World.is_world c.args.host.now;
        opening = c.opened.ensures.only;
        rests = c.in-Ok.ensures.rests;
        moments = c.opened.ensures.any_moment;
        stood = c.in-Ok.ensures.stood;
        reads = c.is_empty-read.ensures.only;
      }) c.in-Ok-read.empty c.in-Ok-read.ensures.empty (c.if-not-empty.false) c.load_stream-loading.ensures.only c.load_stream-loading.ensures.any_moment c.load_stream-loading.ensures.draws;
      world = g.H.World.is_world c.load_stream-loading.new.host;
      done = c.in-Ok-loading.ensures.done;
      fits = c.in-Ok-loading.ensures.fits;
      sent = line_told _ c.as_bytes.result.now _ (c.as_bytes.ensures.value ∙ c.as_str.ensures.value ∙ c.line_of-line.ensures)
          (whole_line c.as_bytes.result.now c.send_all.ensures.only (if_no_error c.send_all.result (sym c.is_err.ensures.value ∙ c.if-is_err.false) c.send_all.ensures.sent));
      made = λ is. cc;
    })

pub returns-in-Err-read-clause-goes : goal.returns-in-Err-read-clause-goes
returns-in-Err-read-clause-goes g c = goes_trans c.opened.ensures.only.goes c.is_empty-read.ensures.only.nothing.only.goes

pub returns-then-not-empty-clause-goes : goal.returns-then-not-empty-clause-goes
returns-then-not-empty-clause-goes g c = goes_trans c.opened.ensures.only.goes c.is_empty-read.ensures.only.nothing.only.goes

pub returns-in-Err-loading-clause-goes : goal.returns-in-Err-loading-clause-goes
returns-in-Err-loading-clause-goes g c =
    goes_trans (goes_trans c.opened.ensures.only.goes c.is_empty-read.ensures.only.nothing.only.goes) c.load_stream-loading.ensures.only.goes

pub returns-then-is_err-clause-goes : goal.returns-then-is_err-clause-goes
returns-then-is_err-clause-goes g c =
    goes_trans (goes_trans (goes_trans c.opened.ensures.only.goes c.is_empty-read.ensures.only.nothing.only.goes) c.load_stream-loading.ensures.only.goes) c.send_all.ensures.only.goes

pub returns-clause-goes : goal.returns-clause-goes
returns-clause-goes g c =
    goes_trans (goes_trans (goes_trans c.opened.ensures.only.goes c.is_empty-read.ensures.only.nothing.only.goes) c.load_stream-loading.ensures.only.goes) c.send_all.ensures.only.goes

-- ---- a fault of the disk is told

pub returns-then-faults-clause-promise : goal.returns-then-faults-clause-promise
returns-then-faults-clause-promise g c =
    load_unread (record {
      world = g.H.World.is_world c.args.host.now;
      opening = c.opened.ensures.only;
      rests = c.in-Ok.ensures.rests;
      moments = c.opened.ensures.any_moment;
      stood = c.in-Ok.ensures.stood;
      reads = c.is_empty-read.ensures.only;
    }) (g.H.World.is_world c.is_empty-read.new.disk) open_fault.Disk
    (λ is. omega (arith, c.is_empty-read.ensures.only.nothing.only.goes.disk_faults, c.if-faults.true)) (λ part is. absurd (cc))

pub returns-then-faults-clause-goes : goal.returns-then-faults-clause-goes
returns-then-faults-clause-goes g c = goes_trans c.opened.ensures.only.goes c.is_empty-read.ensures.only.nothing.only.goes

pub returns-then-faults-2-clause-promise : goal.returns-then-faults-2-clause-promise
returns-then-faults-2-clause-promise g c =
    load_failed fault.Disk (taking_of (record {
      world = g.H.World.is_world c.args.host.now;
      opening = c.opened.ensures.only;
      rests = c.in-Ok.ensures.rests;
      moments = c.opened.ensures.any_moment;
      stood = c.in-Ok.ensures.stood;
      reads = c.is_empty-read.ensures.only;
    }) c.in-Ok-read.empty c.in-Ok-read.ensures.empty (c.if-not-empty.false) c.load_stream-loading.ensures.only c.load_stream-loading.ensures.any_moment c.load_stream-loading.ensures.draws)
    (omega (arith, c.load_stream-loading.ensures.only.goes.disk_faults, c.if-faults-2.true)) (λ other. absurd (other refl)) (λ h stream image is. absurd (cc))

pub returns-then-faults-2-clause-goes : goal.returns-then-faults-2-clause-goes
returns-then-faults-2-clause-goes g c =
    goes_trans (goes_trans c.opened.ensures.only.goes c.is_empty-read.ensures.only.nothing.only.goes) c.load_stream-loading.ensures.only.goes

pub returns-in-Err-clause-told : goal.returns-in-Err-clause-told
returns-in-Err-clause-told g c other = c.in-Err.ensures.told (λ is. other (err_same (Err c.in-Err.status) (Err status.DiskFault) refl refl is))
