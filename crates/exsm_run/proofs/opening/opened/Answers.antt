use Rattle.std.proofs.Common.{◌≡◌, ◌⊎◌, ◌∙◌, refl, sym, ap, subst, Err}
use Rattle.session_core.specs.Meant.{meant}
use Rattle.command_line.specs.declared.status.Status.{Status}
use Rattle.command_line.specs.declared.status.Status.TheVariants as status
use Rattle.disk_model.specs.Runs.{honest_on}
use Rattle.session_views.specs.declared.opener.OpenFault.TheVariants as open_fault
use Rattle.exsm_run.specs.Check.{unopened_status}
use Rattle.exsm_run.specs.Openings.{OpeningPromise, WritesAsOpening}
use Rattle.exsm_run.proofs.Counting.{unopened_so, unopened_well}
use Rattle.exsm_run.proofs.Dumping.{rests_with}
use Rattle.exsm_run.proofs.Opened.{err_same, leaves_opening, shows_opened}
use Rattle.exsm_run.proofs.Written.{opened_writes}
use Rattle.exsm_run.proofs.opening.opened.Goals as goal

pub returns-in-Ok-clause-rests : goal.returns-in-Ok-clause-rests
returns-in-Ok-clause-rests g c table was on = rests_with on.image table c.in-Ok.volume on.stands (c.in-Ok.ensures.rests on.image on.honest on.holds)

pub returns-in-Ok-clause-shows : goal.returns-in-Ok-clause-shows
returns-in-Ok-clause-shows g c image table honest holds stands =
    shows_opened c.in-Ok.volume image table c.in-Ok.ensures.parts (honest_on c.open_volume.ensures.only.goes honest) (c.in-Ok.ensures.opened image honest holds) stands

pub returns-in-Ok-clause-writes : goal.returns-in-Ok-clause-writes
returns-in-Ok-clause-writes g c =
    opened_writes status.Done (g.H.World.is_world c.args.host.now) c.open_volume.ensures.clean c.open_volume.ensures.writes (λ good. c.in-Ok.ensures.parted (λ is. cc))

pub returns-in-Err-clause-writes : goal.returns-in-Err-clause-writes
returns-in-Err-clause-writes g c =
    subst (λ (s : Status). WritesAsOpening (g.H.World.outside c.args.host.now) (g.H.World.outside c.open_volume.new.disk) s) (sym c.status_unopened.ensures)
    (opened_writes (unopened_status c.in-Err.fault) (g.H.World.is_world c.args.host.now) c.open_volume.ensures.clean c.open_volume.ensures.writes
    (λ good. c.in-Err.ensures.parted (λ is. good (ap unopened_status (err_same (Err c.in-Err.fault) (Err open_fault.Disk) refl refl is)))))

pub returns-in-Ok-clause-any_moment : goal.returns-in-Ok-clause-any_moment
returns-in-Ok-clause-any_moment g c image honest holds = leaves_opening image (c.open_volume.ensures.any_moment image honest holds)

pub returns-in-Err-clause-any_moment : goal.returns-in-Err-clause-any_moment
returns-in-Err-clause-any_moment g c image honest holds = leaves_opening image (c.open_volume.ensures.any_moment image honest holds)

pub returns-in-Err-clause-rests : goal.returns-in-Err-clause-rests
returns-in-Err-clause-rests g c table was on =
    subst (λ (s : Status). (s ≡ status.DiskFault) ⊎ (s ≡ status.Memory)) (sym c.status_unopened.ensures)
    (unopened_so c.in-Err.fault (λ part is. meant.no_table on.image table part on.stands (c.in-Err.ensures.bad part (ap (λ f. Err f) is) on.image on.holds)))

pub returns-in-Err-clause-opening : goal.returns-in-Err-clause-opening
returns-in-Err-clause-opening g c =
    subst (λ (s : Status). OpeningPromise (g.H.World.outside c.args.host.now) (g.H.World.outside c.open_volume.new.disk) s) (sym c.status_unopened.ensures)
    (unopened_well c.in-Err.fault (g.H.World.is_world c.args.host.now) (λ part is. c.in-Err.ensures.bad part (ap (λ f. Err f) is)) c.open_volume.ensures.left
    (λ part is. c.in-Err.ensures.unwritten part (ap (λ f. Err f) is)) (λ part is. c.in-Err.ensures.kept part (ap (λ f. Err f) is)))

pub returns-in-Ok-clause-told : goal.returns-in-Ok-clause-told
returns-in-Ok-clause-told g c other = c.in-Ok.ensures.told (λ is. cc)

pub returns-in-Err-clause-told : goal.returns-in-Err-clause-told
returns-in-Err-clause-told g c other =
    c.in-Err.ensures.told (λ is. other (ap (λ s. Err s) (c.status_unopened.ensures ∙ ap unopened_status (err_same (Err c.in-Err.fault) (Err open_fault.Disk) refl refl is))))
