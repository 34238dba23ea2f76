use Rattle.disk_model.specs.Runs.{goes_trans}
use Rattle.std.proofs.Common.{◌∙◌, Err, refl, ap, sym, subst}
use Rattle.command_line.specs.declared.status.Status.{Status}
use Rattle.command_line.specs.declared.status.Status.TheVariants as status
use Rattle.history_dump.specs.declared.fault.DumpFault.TheVariants as fault
use Rattle.exsm_run.specs.Dump.{DumpPromise, failed_status}
use Rattle.exsm_run.proofs.Dumping.{can_read, dump_done, dump_failed, dump_unopened}
use Rattle.exsm_run.proofs.Opened.{err_same}
use Rattle.exsm_run.proofs.dump.dumped.Goals as goal

pub send_dump-requires : goal.send_dump-requires
send_dump-requires g c = record { ready = can_read (g.H.World.outside c.opened.new.host).size c.in-Ok.volume c.in-Ok.ensures.parts c.in-Ok.ensures.room }

pub returns-in-Err-clause-promise : goal.returns-in-Err-clause-promise
returns-in-Err-clause-promise g c =
    dump_unopened c.in-Err.status c.opened.ensures.only c.in-Err.ensures.stops c.in-Err.ensures.rests c.opened.ensures.any_moment c.in-Err.ensures.writes
    c.in-Err.ensures.opening

pub returns-in-Ok-send_dump-clause-promise : goal.returns-in-Ok-send_dump-clause-promise
returns-in-Ok-send_dump-clause-promise g c =
    dump_done (record {
      opening = c.opened.ensures.only;
      rests = c.in-Ok.ensures.rests;
      moments = c.opened.ensures.any_moment;
      written = c.in-Ok.ensures.writes;
      stood = c.in-Ok.ensures.stood;
      reads = c.send_dump.ensures.only;
    }) c.in-Ok-send_dump.ensures.sent

pub returns-clause-promise : goal.returns-clause-promise
returns-clause-promise g c =
    subst (λ (s : Status). DumpPromise (g.H.World.outside c.args.host.now) (g.H.World.outside c.send_dump.new.host) s) (sym c.status_failed.ensures)
    (dump_failed c.in-Err-send_dump.fault (record {
      opening = c.opened.ensures.only;
      rests = c.in-Ok.ensures.rests;
      moments = c.opened.ensures.any_moment;
      written = c.in-Ok.ensures.writes;
      stood = c.in-Ok.ensures.stood;
      reads = c.send_dump.ensures.only;
    }) c.in-Err-send_dump.ensures.sent c.in-Err-send_dump.ensures.cause c.in-Err-send_dump.ensures.sound)

pub returns-in-Ok-send_dump-clause-goes : goal.returns-in-Ok-send_dump-clause-goes
returns-in-Ok-send_dump-clause-goes g c = goes_trans c.opened.ensures.only.goes c.send_dump.ensures.only.goes

pub returns-clause-goes : goal.returns-clause-goes
returns-clause-goes g c = goes_trans c.opened.ensures.only.goes c.send_dump.ensures.only.goes

pub returns-in-Err-clause-told : goal.returns-in-Err-clause-told
returns-in-Err-clause-told g c other = c.in-Err.ensures.told (λ is. other (err_same (Err c.in-Err.status) (Err status.DiskFault) refl refl is))

pub returns-in-Ok-send_dump-clause-told : goal.returns-in-Ok-send_dump-clause-told
returns-in-Ok-send_dump-clause-told g c other = c.in-Ok-send_dump.ensures.told (λ is. cc) ∙ c.in-Ok.ensures.told (λ is. cc)

pub returns-clause-told : goal.returns-clause-told
returns-clause-told g c other =
    c.in-Err-send_dump.ensures.told (λ is. other (c.status_failed.ensures ∙ ap failed_status (err_same (Err c.in-Err-send_dump.fault) (Err fault.Disk) refl refl is))) ∙ c.in-Ok.ensures.told (λ is. cc)
