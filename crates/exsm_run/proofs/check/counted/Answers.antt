use Rattle.std.proofs.Common.{◌≡◌, ◌⊎◌, ◌∙◌, ◌≤◌, refl, sym, ap, subst, arith, Err, Ok, Some, IsTrue, List, ℕ, true≢false}
use Rattle.std.proofs.lemmas.Result.{err_from_is_err_and}
use Rattle.disk_model.specs.Runs.{honest_on, leaves_quiet}
use Rattle.ex_base.specs.Sizes.{volume_bytes}
use Rattle.session_views.specs.Opening.{StandsOpening}
use Rattle.session_views.specs.declared.stop.Stop.{Stop}
use Rattle.session_views.specs.declared.stop.Stop.TheVariants as stop
use Rattle.talks.specs.Opening.{Opened}
use Rattle.session_core.specs.Meant.{meant}
use Rattle.session_core.specs.Sessions.{SessionState}
use Rattle.command_line.specs.declared.status.Status.{Status}
use Rattle.command_line.specs.declared.status.Status.TheVariants as status
use Rattle.exsm_run.specs.Check.{StopsAs, StopsCount}
use Rattle.exsm_run.specs.Fresh.{IsFresh}
use Rattle.exsm_run.specs.Openings.{OpeningPromise, WritesAsOpening}
use Rattle.exsm_run.proofs.Counting.{count_of, stops_session, stopped_so, no_bad_session}
use Rattle.exsm_run.proofs.Lines.{opened_well}
use Rattle.exsm_run.proofs.Opened.{err_same}
use Rattle.exsm_run.proofs.Written.{keeps_nothing, match_err_handed, writes_on_opening}
use Rattle.ex_base.proofs.Results.{if_err_handed}
use Rattle.exsm_run.proofs.check.counted.Goals as goal

-- ---- a volume that wasn't opened

pub returns-in_err-volume-clause-stops : goal.returns-in_err-volume-clause-stops
returns-in_err-volume-clause-stops g c =
    if_err_handed c.from_residual.result _ c.in_err-volume.field-0.0 c.from_residual.ensures.1 c.in_err-volume.ensures.stops

pub returns-in_err-volume-clause-counts : goal.returns-in_err-volume-clause-counts
returns-in_err-volume-clause-counts g c table was on =
    match_err_handed c.from_residual.result _ _ c.in_err-volume.field-0.0 c.from_residual.ensures.1 (c.in_err-volume.ensures.rests table was on)

pub returns-in_err-volume-clause-writes : goal.returns-in_err-volume-clause-writes
returns-in_err-volume-clause-writes g c =
    match_err_handed c.from_residual.result _ _ c.in_err-volume.field-0.0 c.from_residual.ensures.1 c.in_err-volume.ensures.writes

pub returns-in_err-volume-clause-opening : goal.returns-in_err-volume-clause-opening
returns-in_err-volume-clause-opening g c =
    if_err_handed c.from_residual.result _ c.in_err-volume.field-0.0 c.from_residual.ensures.1 c.in_err-volume.ensures.opening

-- ---- an open volume

pub summary-requires : goal.summary-requires
summary-requires g c =
    record { room = subst (λ (s : SessionState). volume_bytes s.geometry ≤ (g.H.World.outside c.opened.new.host).size) (sym c.on-session.ensures) c.in_ok-volume.ensures.room }

pub returns-in-Ok-clause-counts : goal.returns-in-Ok-clause-counts
returns-in-Ok-clause-counts g c table was on =
    let opened = subst (λ (s : SessionState). Opened meant IsFresh table s (g.H.World.outside c.opened.new.host)) (sym c.on-session.ensures)
    (c.in_ok-volume.ensures.shows on.image table on.honest on.holds on.stands) in
    count_of (g.H.World.is_world c.opened.new.host) opened c.summary.ensures.only c.in-Ok.summary (c.in-Ok.ensures.sums opened.view opened.is opened.shows)

pub returns-in-Ok-clause-any_moment : goal.returns-in-Ok-clause-any_moment
returns-in-Ok-clause-any_moment g c image honest holds =
    leaves_quiet (StandsOpening meant (g.H.World.outside c.args.host.now).images image) (c.opened.ensures.any_moment image honest holds) (honest_on c.opened.ensures.only.goes honest) c.summary.ensures.only.nothing

pub returns-in-Ok-clause-writes : goal.returns-in-Ok-clause-writes
returns-in-Ok-clause-writes g c =
    writes_on_opening status.Done c.opened.ensures.only.goes (keeps_nothing (g.H.World.is_world c.opened.new.host) c.summary.ensures.only.nothing) c.in_ok-volume.ensures.writes

pub returns-clause-stops : goal.returns-clause-stops
returns-clause-stops g c =
    let a = g.H.World.outside c.args.host.now in
    let now = g.H.World.outside c.summary.new.host in
    stops_session c.in-Err.stop c.status_stopped.result a now c.status_stopped.ensures
    (λ is. let rose = c.in-Err.ensures.disk (ap (λ s. Err s) is) in omega (arith, rose, c.opened.ensures.only.goes.disk_faults))
    (λ page want got is. c.in-Err.ensures.damaged page want got (ap (λ s. Err s) is))

pub returns-clause-counts : goal.returns-clause-counts
returns-clause-counts g c table was on =
    let opened = subst (λ (s : SessionState). Opened meant IsFresh table s (g.H.World.outside c.opened.new.host)) (sym c.on-session.ensures)
    (c.in_ok-volume.ensures.shows on.image table on.honest on.holds on.stands) in
    stopped_so c.in-Err.stop c.status_stopped.result c.status_stopped.ensures (c.in-Err.ensures.sound opened.view c.in-Err.stop opened.is opened.shows refl)

pub returns-clause-any_moment : goal.returns-clause-any_moment
returns-clause-any_moment g c image honest holds =
    leaves_quiet (StandsOpening meant (g.H.World.outside c.args.host.now).images image) (c.opened.ensures.any_moment image honest holds) (honest_on c.opened.ensures.only.goes honest) c.summary.ensures.only.nothing

pub returns-clause-writes : goal.returns-clause-writes
returns-clause-writes g c =
    writes_on_opening c.status_stopped.result c.opened.ensures.only.goes (keeps_nothing (g.H.World.is_world c.opened.new.host) c.summary.ensures.only.nothing) c.in_ok-volume.ensures.writes

pub returns-clause-opening : goal.returns-clause-opening
returns-clause-opening g c =
    opened_well c.status_stopped.result (λ part is. no_bad_session c.in-Err.stop c.status_stopped.result part c.status_stopped.ensures is) c.in_ok-volume.ensures.stood

pub status_stopped-requires : goal.status_stopped-requires
status_stopped-requires g c is = true≢false (sym (c.in-Err.ensures.was_down (ap (λ s. Err s) is)) ∙ ap (λ (s : SessionState). s.down) c.on-session.ensures)

-- ---- a fault of the disk is told

-- an answer is no fault
not_fault : {A B : Type 0} (answer : A) (fault : B) → Ok answer ≡ Err fault → ⊥
not_fault answer fault is = let same : Ok answer ≡ Err fault = is in cc

pub returns-in_err-volume-clause-told : goal.returns-in_err-volume-clause-told
returns-in_err-volume-clause-told g c =
    let p = err_from_is_err_and c.from_residual.result c.from_residual.ensures.1 in
    rw (p.1, p.2) (λ other. c.in_err-volume.ensures.told (λ is. other (ap (λ s. Err s) (err_same (Err c.in_err-volume.field-0.0) (Err status.DiskFault) refl refl is))))

pub returns-in-Ok-clause-told : goal.returns-in-Ok-clause-told
returns-in-Ok-clause-told g c other = c.in-Ok.ensures.told (not_fault _ _) ∙ c.in_ok-volume.ensures.told (not_fault _ _)

pub returns-clause-told : goal.returns-clause-told
returns-clause-told g c other =
    c.in-Err.ensures.told (λ is. other (ap (λ s. Err s) (subst (λ (s : Stop). StopsAs s c.status_stopped.result) (err_same (Err c.in-Err.stop) (Err stop.Disk) refl refl is) c.status_stopped.ensures)))
    ∙ c.in_ok-volume.ensures.told (not_fault _ _)
