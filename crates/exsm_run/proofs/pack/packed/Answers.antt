use Rattle.std.proofs.Common.{◌∙◌, Err, inl, inr, refl, sym, ap, subst, arith}
use Rattle.disk_model.specs.Runs.{goes_trans}
use Rattle.ex_base.proofs.Results.{if_no_error}
use Rattle.runs.proofs.Sending.{at_err}
use Rattle.command_line.specs.declared.status.Status.{Status}
use Rattle.command_line.specs.declared.status.Status.TheVariants as status
use Rattle.exsm_run.specs.Pack.{PackPromise}
use Rattle.exsm_run.proofs.Checking.{cut_line, whole_line}
use Rattle.exsm_run.proofs.Loading.{line_told}
use Rattle.exsm_run.proofs.Packing.{Packing, can_pack, pack_failed, pack_sent, pack_unopened}
use Rattle.packing.specs.declared.fault.PackFault.TheVariants as fault
use Rattle.exsm_run.proofs.Opened.{err_same}
use Rattle.exsm_run.proofs.pack.packed.Given as given
use Rattle.exsm_run.proofs.pack.packed.Goals as goal

pub pack-packing-requires : goal.pack-packing-requires
pack-packing-requires g c = record { ready = can_pack (g.H.World.outside c.opened.new.host).size c.in-Ok.volume c.in-Ok.ensures.parts c.in-Ok.ensures.room }

pub returns-in-Err-clause-promise : goal.returns-in-Err-clause-promise
returns-in-Err-clause-promise g c =
    pack_unopened c.in-Err.status c.opened.ensures.only c.in-Err.ensures.stops c.in-Err.ensures.rests c.opened.ensures.holds c.opened.ensures.any_moment
    c.in-Err.ensures.writes.parted c.in-Err.ensures.opening

pub returns-in-Err-packing-clause-promise : goal.returns-in-Err-packing-clause-promise
returns-in-Err-packing-clause-promise g c =
    subst (λ (s : Status). PackPromise (g.H.World.outside c.args.host.now) (g.H.World.outside c.pack-packing.new.disk) s) (sym c.status_unpacked.ensures)
    (pack_failed (record {
      opening = c.opened.ensures.only;
      same = c.in-Ok.ensures.same;
      moments = c.opened.ensures.any_moment;
      parted = c.in-Ok.ensures.writes.parted (λ is. cc);
      stood = c.in-Ok.ensures.stood;
      only = c.pack-packing.ensures.only;
      any_moment = c.pack-packing.ensures.any_moment;
      holds = c.pack-packing.ensures.holds;
    }) c.in-Err-packing.fault (record {
      cause = c.in-Err-packing.ensures.cause;
      sound = c.in-Err-packing.ensures.sound;
      lacks = λ need free is. c.in-Err-packing.ensures.lacks need free (ap (λ f. Err f) is);
      lacking = c.in-Err-packing.ensures.lacking;
    }))

pub returns-then-is_err-clause-promise : goal.returns-then-is_err-clause-promise
returns-then-is_err-clause-promise g c =
    pack_sent (record {
      opening = c.opened.ensures.only;
      same = c.in-Ok.ensures.same;
      moments = c.opened.ensures.any_moment;
      parted = c.in-Ok.ensures.writes.parted (λ is. cc);
      stood = c.in-Ok.ensures.stood;
      only = c.pack-packing.ensures.only;
      any_moment = c.pack-packing.ensures.any_moment;
      holds = c.pack-packing.ensures.holds;
    }) _ (record {
      world = g.H.World.is_world c.pack-packing.new.disk;
      done = c.in-Ok-packing.ensures.packed;
      enough = c.in-Ok-packing.ensures.lacking;
      sent = line_told _ c.as_bytes.result.now _ (c.as_bytes.ensures.value ∙ c.as_str.ensures.value ∙ c.line_of-line.ensures)
          (cut_line c.as_bytes.result.now c.send_all.ensures.only (at_err c.send_all.result _ (sym c.is_err.ensures.value ∙ c.if-is_err.true) c.send_all.ensures.cause)
          (at_err c.send_all.result _ (sym c.is_err.ensures.value ∙ c.if-is_err.true) c.send_all.ensures.failed));
    })

pub returns-clause-promise : goal.returns-clause-promise
returns-clause-promise g c =
    pack_sent (record {
      opening = c.opened.ensures.only;
      same = c.in-Ok.ensures.same;
      moments = c.opened.ensures.any_moment;
      parted = c.in-Ok.ensures.writes.parted (λ is. cc);
      stood = c.in-Ok.ensures.stood;
      only = c.pack-packing.ensures.only;
      any_moment = c.pack-packing.ensures.any_moment;
      holds = c.pack-packing.ensures.holds;
    }) _ (record {
      world = g.H.World.is_world c.pack-packing.new.disk;
      done = c.in-Ok-packing.ensures.packed;
      enough = c.in-Ok-packing.ensures.lacking;
      sent = line_told _ c.as_bytes.result.now _ (c.as_bytes.ensures.value ∙ c.as_str.ensures.value ∙ c.line_of-line.ensures)
          (whole_line c.as_bytes.result.now c.send_all.ensures.only (if_no_error c.send_all.result (sym c.is_err.ensures.value ∙ c.if-is_err.false) c.send_all.ensures.sent));
    })

pub returns-then-is_err-clause-goes : goal.returns-then-is_err-clause-goes
returns-then-is_err-clause-goes g c = goes_trans (goes_trans c.opened.ensures.only.goes c.pack-packing.ensures.only.goes) c.send_all.ensures.only.goes

pub returns-clause-goes : goal.returns-clause-goes
returns-clause-goes g c = goes_trans (goes_trans c.opened.ensures.only.goes c.pack-packing.ensures.only.goes) c.send_all.ensures.only.goes

pub returns-then-is_err-clause-output_fault : goal.returns-then-is_err-clause-output_fault
returns-then-is_err-clause-output_fault g c is =
    let rose = at_err c.send_all.result _ (sym c.is_err.ensures.value ∙ c.if-is_err.true) c.send_all.ensures.cause in
    omega (arith, rose, c.opened.ensures.only.write_faults, c.pack-packing.ensures.only.write_faults)

pub returns-in-Err-packing-clause-goes : goal.returns-in-Err-packing-clause-goes
returns-in-Err-packing-clause-goes g c = goes_trans c.opened.ensures.only.goes c.pack-packing.ensures.only.goes

-- ---- a fault of the disk is told

pub returns-then-faults-clause-promise : goal.returns-then-faults-clause-promise
returns-then-faults-clause-promise g c =
    pack_failed (record {
      opening = c.opened.ensures.only;
      same = c.in-Ok.ensures.same;
      moments = c.opened.ensures.any_moment;
      parted = c.in-Ok.ensures.writes.parted (λ is. cc);
      stood = c.in-Ok.ensures.stood;
      only = c.pack-packing.ensures.only;
      any_moment = c.pack-packing.ensures.any_moment;
      holds = c.pack-packing.ensures.holds;
    }) fault.Disk (record {
      cause = omega (arith, c.pack-packing.ensures.only.goes.disk_faults, c.if-faults.true);
      sound = λ damage. absurd damage;
      lacks = λ need free is. absurd (cc);
      lacking = λ d image need free rests lacks. inr (inl refl);
    })

pub returns-then-faults-clause-goes : goal.returns-then-faults-clause-goes
returns-then-faults-clause-goes g c = goes_trans c.opened.ensures.only.goes c.pack-packing.ensures.only.goes

pub returns-in-Err-clause-told : goal.returns-in-Err-clause-told
returns-in-Err-clause-told g c other = c.in-Err.ensures.told (λ is. other (err_same (Err c.in-Err.status) (Err status.DiskFault) refl refl is))
