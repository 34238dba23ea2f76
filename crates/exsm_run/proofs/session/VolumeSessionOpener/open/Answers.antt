use Rattle.std.proofs.Common.{◌≤◌, ◌∙◌, List, map, ap, sym, subst, Err, refl}
use Rattle.ex_base.specs.Sizes.{volume_bytes}
use Rattle.buffer_groups.specs.Frames.{Frames}
use Rattle.buffer_groups.specs.Groups.{kind_of}
use Rattle.disk_model.specs.Runs.{honest_on}
use Rattle.talks.specs.Opening.{Opened}
use Rattle.exsm_run.specs.Fresh.{IsFresh}
use Rattle.session_core.specs.Meant.{meant}
use Rattle.session_core.specs.Sessions.{SessionState}
use Rattle.session_views.specs.declared.opener.OpenFault.TheVariants as open_fault
use Rattle.command_line.specs.declared.status.Status.TheVariants as status
use Rattle.exsm_run.specs.Check.{unopened_status}
use Rattle.exsm_run.proofs.Opened.{err_same, shows_opened, leaves_opening}
use Rattle.exsm_run.proofs.Written.{opened_writes}
use Rattle.exsm_run.proofs.session.VolumeSessionOpener.open.Goals as goal

pub returns-in-Err-clause-bad : goal.returns-in-Err-clause-bad
returns-in-Err-clause-bad g c part same image holds = c.open_volume.ensures.bad part (c.in-Err.is ∙ ap Err (err_same _ _ refl refl same)) image holds

pub returns-in-Err-clause-any_moment : goal.returns-in-Err-clause-any_moment
returns-in-Err-clause-any_moment g c image honest holds = leaves_opening image (c.open_volume.ensures.any_moment image honest holds)

pub returns-in-Ok-clause-left : goal.returns-in-Ok-clause-left
returns-in-Ok-clause-left g c image part holds bad = c.open_volume.ensures.left image part holds bad

pub returns-in-Ok-clause-shows : goal.returns-in-Ok-clause-shows
returns-in-Ok-clause-shows g c image table honest holds stands =
    subst (λ (s : SessionState). Opened meant IsFresh table s (g.H.World.outside c.open_volume.new.disk)) (sym c.on.ensures)
    (shows_opened c.in-Ok.volume image table c.in-Ok.ensures.parts (honest_on c.open_volume.ensures.only.goes honest) (c.in-Ok.ensures.opened image honest holds) stands)

pub returns-in-Ok-clause-any_moment : goal.returns-in-Ok-clause-any_moment
returns-in-Ok-clause-any_moment g c image honest holds = leaves_opening image (c.open_volume.ensures.any_moment image honest holds)

pub returns-in-Ok-clause-room : goal.returns-in-Ok-clause-room
returns-in-Ok-clause-room g c = subst (λ (s : SessionState). volume_bytes s.geometry ≤ (g.H.World.outside c.open_volume.new.disk).size) (sym c.on.ensures) c.in-Ok.ensures.room

pub returns-in-Ok-clause-does : goal.returns-in-Ok-clause-does
returns-in-Ok-clause-does g c =
    opened_writes status.Done (g.H.World.is_world c.args.host.now) c.open_volume.ensures.clean c.open_volume.ensures.writes (λ good. c.in-Ok.ensures.parted (λ is. cc))

pub returns-in-Err-clause-does : goal.returns-in-Err-clause-does
returns-in-Err-clause-does g c =
    opened_writes (unopened_status c.in-Err.fault) (g.H.World.is_world c.args.host.now) c.open_volume.ensures.clean c.open_volume.ensures.writes
    (λ good. c.in-Err.ensures.parted (λ is. good (ap unopened_status (err_same (Err c.in-Err.fault) (Err open_fault.Disk) refl refl is))))

pub returns-in-Err-clause-told : goal.returns-in-Err-clause-told
returns-in-Err-clause-told g c other = c.in-Err.ensures.told (λ is. other (ap (λ f. Err f) (err_same _ _ refl refl is)))

pub returns-in-Ok-clause-told : goal.returns-in-Ok-clause-told
returns-in-Ok-clause-told g c other = c.in-Ok.ensures.told (λ is. cc)
