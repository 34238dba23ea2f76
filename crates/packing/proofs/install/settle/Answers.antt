use Rattle.std.proofs.Common.{◌∙◌, Err, ap, arith}
use Rattle.ex_base.proofs.Results.{if_err_handed}
use Rattle.disk_model.specs.Runs.{disk_trans, honest_on, leaves_trans, reads_refl}
use Rattle.volume_model.specs.Committed.{StandsForVolume}
use Rattle.ex_base.proofs.Handed.{no_value}
use Rattle.volume_port.proofs.GivingUp.{gives_tells}
use Rattle.packing.proofs.PackFaults.{cause_told, cause_uncommitted, damage_told, never_told, never_uncommitted, no_damage}
use Rattle.packing.proofs.SettledParts.{checkpoint_geometry, checkpoint_room, checkpoint_sizes, commit_behind, commit_catalog, commit_few, commit_geometry, commit_logged, commit_room, commit_sizes, fits_counted, gave_of, idle_after, kept_of, told_after, with_catalog_image, wrote_of}
use Rattle.packing.proofs.Settlings.{commit_moments, first_moments, gone_owns, home_moments, settled}
use Rattle.packing.proofs.install.settle.Goals as goal

pub commit-requires-clause-geometry : goal.commit-requires-clause-geometry
commit-requires-clause-geometry g c =
    commit_geometry c.args.volume.now c.args.start.now.catalog.items c.args.come.now c.edit.new.self c.own_root.new.units c.release_root.new.units c.release_root.new.groups
    (gave_of c.args.volume.now c.args.start.now.catalog.items c.args.come.now c.edit.new.self c.own_root.new.units c.release_root.new.units c.release_root.new.groups c.requires.ready c.requires.log c.requires.committed c.requires.few
    (c.in_ok-edit.ensures.ok ∙ ap (with_catalog_image c.args.volume.now.meta) c.deref.ensures.value) c.edit.ensures.touches c.own_root.ensures.counts (c.own_root.ensures.counted c.args.volume.now.geometry c.requires.ready.fits.counted) c.release_root.ensures.gives)

pub commit-requires-clause-room : goal.commit-requires-clause-room
commit-requires-clause-room g c =
    commit_room c.args.volume.now c.args.start.now.catalog.items c.args.come.now c.edit.new.self c.own_root.new.units c.release_root.new.units c.release_root.new.groups
    (gave_of c.args.volume.now c.args.start.now.catalog.items c.args.come.now c.edit.new.self c.own_root.new.units c.release_root.new.units c.release_root.new.groups c.requires.ready c.requires.log c.requires.committed c.requires.few
    (c.in_ok-edit.ensures.ok ∙ ap (with_catalog_image c.args.volume.now.meta) c.deref.ensures.value) c.edit.ensures.touches c.own_root.ensures.counts (c.own_root.ensures.counted c.args.volume.now.geometry c.requires.ready.fits.counted) c.release_root.ensures.gives)

pub commit-requires-clause-sizes : goal.commit-requires-clause-sizes
commit-requires-clause-sizes g c =
    commit_sizes c.args.volume.now c.args.start.now.catalog.items c.args.come.now c.edit.new.self c.own_root.new.units c.release_root.new.units c.release_root.new.groups
    (gave_of c.args.volume.now c.args.start.now.catalog.items c.args.come.now c.edit.new.self c.own_root.new.units c.release_root.new.units c.release_root.new.groups c.requires.ready c.requires.log c.requires.committed c.requires.few
    (c.in_ok-edit.ensures.ok ∙ ap (with_catalog_image c.args.volume.now.meta) c.deref.ensures.value) c.edit.ensures.touches c.own_root.ensures.counts (c.own_root.ensures.counted c.args.volume.now.geometry c.requires.ready.fits.counted) c.release_root.ensures.gives)

pub commit-requires-clause-logged : goal.commit-requires-clause-logged
commit-requires-clause-logged g c =
    commit_logged c.args.volume.now c.args.start.now.catalog.items c.args.come.now c.edit.new.self c.own_root.new.units c.release_root.new.units c.release_root.new.groups
    (gave_of c.args.volume.now c.args.start.now.catalog.items c.args.come.now c.edit.new.self c.own_root.new.units c.release_root.new.units c.release_root.new.groups c.requires.ready c.requires.log c.requires.committed c.requires.few
    (c.in_ok-edit.ensures.ok ∙ ap (with_catalog_image c.args.volume.now.meta) c.deref.ensures.value) c.edit.ensures.touches c.own_root.ensures.counts (c.own_root.ensures.counted c.args.volume.now.geometry c.requires.ready.fits.counted) c.release_root.ensures.gives)

pub commit-requires-clause-few_pages : goal.commit-requires-clause-few_pages
commit-requires-clause-few_pages g c =
    commit_few c.args.volume.now c.args.start.now.catalog.items c.args.come.now c.edit.new.self c.own_root.new.units c.release_root.new.units c.release_root.new.groups
    (gave_of c.args.volume.now c.args.start.now.catalog.items c.args.come.now c.edit.new.self c.own_root.new.units c.release_root.new.units c.release_root.new.groups c.requires.ready c.requires.log c.requires.committed c.requires.few
    (c.in_ok-edit.ensures.ok ∙ ap (with_catalog_image c.args.volume.now.meta) c.deref.ensures.value) c.edit.ensures.touches c.own_root.ensures.counts (c.own_root.ensures.counted c.args.volume.now.geometry c.requires.ready.fits.counted) c.release_root.ensures.gives)

pub commit-requires-clause-catalog : goal.commit-requires-clause-catalog
commit-requires-clause-catalog g c =
    commit_catalog c.args.volume.now c.args.start.now.catalog.items c.args.come.now c.edit.new.self c.own_root.new.units c.release_root.new.units c.release_root.new.groups
    (gave_of c.args.volume.now c.args.start.now.catalog.items c.args.come.now c.edit.new.self c.own_root.new.units c.release_root.new.units c.release_root.new.groups c.requires.ready c.requires.log c.requires.committed c.requires.few
    (c.in_ok-edit.ensures.ok ∙ ap (with_catalog_image c.args.volume.now.meta) c.deref.ensures.value) c.edit.ensures.touches c.own_root.ensures.counts (c.own_root.ensures.counted c.args.volume.now.geometry c.requires.ready.fits.counted) c.release_root.ensures.gives)

pub checkpoint-requires-clause-geometry : goal.checkpoint-requires-clause-geometry
checkpoint-requires-clause-geometry g c =
    checkpoint_geometry c.args.volume.now c.args.start.now.catalog.items c.args.come.now c.edit.new.self c.own_root.new.units c.release_root.new.units c.release_root.new.groups
    (gave_of c.args.volume.now c.args.start.now.catalog.items c.args.come.now c.edit.new.self c.own_root.new.units c.release_root.new.units c.release_root.new.groups c.requires.ready c.requires.log c.requires.committed c.requires.few
    (c.in_ok-edit.ensures.ok ∙ ap (with_catalog_image c.args.volume.now.meta) c.deref.ensures.value) c.edit.ensures.touches c.own_root.ensures.counts (c.own_root.ensures.counted c.args.volume.now.geometry c.requires.ready.fits.counted) c.release_root.ensures.gives) c.commit.new.log c.commit.new.meta c.commit.new.groups
    (kept_of c.args.volume.now c.edit.new.self c.release_root.new.groups c.commit.new.log c.commit.new.meta c.commit.new.groups c.commit.ensures.only c.commit.ensures.same_geometry c.commit.ensures.log_geometry c.commit.ensures.sizes c.commit.ensures.kinds c.commit.ensures.behind c.commit.ensures.logged c.in_ok-commit.ensures.working)

pub checkpoint-requires-clause-room : goal.checkpoint-requires-clause-room
checkpoint-requires-clause-room g c =
    checkpoint_room c.args.volume.now c.args.start.now.catalog.items c.args.come.now c.edit.new.self c.own_root.new.units c.release_root.new.units c.release_root.new.groups
    (gave_of c.args.volume.now c.args.start.now.catalog.items c.args.come.now c.edit.new.self c.own_root.new.units c.release_root.new.units c.release_root.new.groups c.requires.ready c.requires.log c.requires.committed c.requires.few
    (c.in_ok-edit.ensures.ok ∙ ap (with_catalog_image c.args.volume.now.meta) c.deref.ensures.value) c.edit.ensures.touches c.own_root.ensures.counts (c.own_root.ensures.counted c.args.volume.now.geometry c.requires.ready.fits.counted) c.release_root.ensures.gives) c.commit.new.log c.commit.new.meta c.commit.new.groups
    (kept_of c.args.volume.now c.edit.new.self c.release_root.new.groups c.commit.new.log c.commit.new.meta c.commit.new.groups c.commit.ensures.only c.commit.ensures.same_geometry c.commit.ensures.log_geometry c.commit.ensures.sizes c.commit.ensures.kinds c.commit.ensures.behind c.commit.ensures.logged c.in_ok-commit.ensures.working)

pub checkpoint-requires-clause-sizes : goal.checkpoint-requires-clause-sizes
checkpoint-requires-clause-sizes g c =
    checkpoint_sizes c.args.volume.now c.args.start.now.catalog.items c.args.come.now c.edit.new.self c.own_root.new.units c.release_root.new.units c.release_root.new.groups
    (gave_of c.args.volume.now c.args.start.now.catalog.items c.args.come.now c.edit.new.self c.own_root.new.units c.release_root.new.units c.release_root.new.groups c.requires.ready c.requires.log c.requires.committed c.requires.few
    (c.in_ok-edit.ensures.ok ∙ ap (with_catalog_image c.args.volume.now.meta) c.deref.ensures.value) c.edit.ensures.touches c.own_root.ensures.counts (c.own_root.ensures.counted c.args.volume.now.geometry c.requires.ready.fits.counted) c.release_root.ensures.gives) c.commit.new.log c.commit.new.meta c.commit.new.groups
    (kept_of c.args.volume.now c.edit.new.self c.release_root.new.groups c.commit.new.log c.commit.new.meta c.commit.new.groups c.commit.ensures.only c.commit.ensures.same_geometry c.commit.ensures.log_geometry c.commit.ensures.sizes c.commit.ensures.kinds c.commit.ensures.behind c.commit.ensures.logged c.in_ok-commit.ensures.working)

pub returns-clause-idle : goal.returns-clause-idle
returns-clause-idle g c =
    idle_after c.args.volume.now c.args.start.now.catalog.items c.args.come.now c.edit.new.self c.own_root.new.units c.release_root.new.units c.release_root.new.groups
    (gave_of c.args.volume.now c.args.start.now.catalog.items c.args.come.now c.edit.new.self c.own_root.new.units c.release_root.new.units c.release_root.new.groups c.requires.ready c.requires.log c.requires.committed c.requires.few
    (c.in_ok-edit.ensures.ok ∙ ap (with_catalog_image c.args.volume.now.meta) c.deref.ensures.value) c.edit.ensures.touches c.own_root.ensures.counts (c.own_root.ensures.counted c.args.volume.now.geometry c.requires.ready.fits.counted) c.release_root.ensures.gives) c.commit.new.log c.commit.new.meta c.commit.new.groups
    (kept_of c.args.volume.now c.edit.new.self c.release_root.new.groups c.commit.new.log c.commit.new.meta c.commit.new.groups c.commit.ensures.only c.commit.ensures.same_geometry c.commit.ensures.log_geometry c.commit.ensures.sizes c.commit.ensures.kinds c.commit.ensures.behind c.commit.ensures.logged c.in_ok-commit.ensures.working)
    c.checkpoint.new.log c.checkpoint.new.meta c.checkpoint.new.groups
    (wrote_of c.commit.new.log c.commit.new.meta c.commit.new.groups c.checkpoint.new.log c.checkpoint.new.meta c.checkpoint.new.groups c.checkpoint.ensures.only c.checkpoint.ensures.nothing c.in_ok-checkpoint.ensures.closed c.in_ok-checkpoint.ensures.emptied c.checkpoint.ensures.working c.checkpoint.ensures.same_geometry c.checkpoint.ensures.sizes c.checkpoint.ensures.kinds c.checkpoint.ensures.behind)

pub release_root-requires-clause-ready : goal.release_root-requires-clause-ready
release_root-requires-clause-ready g c =
    fits_counted (g.D.World.outside c.args.disk.now) c.args.volume.now c.own_root.new.units c.requires.ready (c.own_root.ensures.counted c.args.volume.now.geometry c.requires.ready.fits.counted)

pub returns-in_err-edit-clause-any_moment : goal.returns-in_err-edit-clause-any_moment
returns-in_err-edit-clause-any_moment g c =
    λ w before d image moves after version may start. first_moments before c.args.volume.now d image moves after version c.args.gone.now c.args.come.now c.args.start.now may c.requires.few start (g.D.World.is_world c.args.disk.now) (reads_refl _)

pub returns-in_err-release_root-clause-any_moment : goal.returns-in_err-release_root-clause-any_moment
returns-in_err-release_root-clause-any_moment g c =
    λ w before d image moves after version may start. first_moments before c.args.volume.now d image moves after version c.args.gone.now c.args.come.now c.args.start.now may c.requires.few start (g.D.World.is_world c.args.disk.now) c.release_root.ensures.gives.only

pub returns-in_err-commit-clause-any_moment : goal.returns-in_err-commit-clause-any_moment
returns-in_err-commit-clause-any_moment g c =
    λ w before d image moves after version may start. leaves_trans (StandsForVolume d image) (first_moments before c.args.volume.now d image moves after version c.args.gone.now c.args.come.now c.args.start.now may c.requires.few start (g.D.World.is_world c.args.disk.now) c.release_root.ensures.gives.only)
    (commit_moments before c.args.volume.now d image moves after version c.args.gone.now c.args.come.now c.args.start.now may c.requires.few start c.release_root.ensures.gives.only (honest_on c.release_root.ensures.gives.only.nothing.only.goes may.works.told.0) c.edit.new.self (c.in_ok-edit.ensures.ok ∙ ap (with_catalog_image c.args.volume.now.meta) c.deref.ensures.value)
    c.commit.ensures.any_moment)

pub returns-in_err-checkpoint-clause-any_moment : goal.returns-in_err-checkpoint-clause-any_moment
returns-in_err-checkpoint-clause-any_moment g c =
    λ w before d image moves after version may start. leaves_trans (StandsForVolume d image) (first_moments before c.args.volume.now d image moves after version c.args.gone.now c.args.come.now c.args.start.now may c.requires.few start (g.D.World.is_world c.args.disk.now) c.release_root.ensures.gives.only)
    (leaves_trans (StandsForVolume d image) (commit_moments before c.args.volume.now d image moves after version c.args.gone.now c.args.come.now c.args.start.now may c.requires.few start c.release_root.ensures.gives.only (honest_on c.release_root.ensures.gives.only.nothing.only.goes may.works.told.0) c.edit.new.self (c.in_ok-edit.ensures.ok ∙ ap (with_catalog_image c.args.volume.now.meta) c.deref.ensures.value)
    c.commit.ensures.any_moment)
    (home_moments before c.args.volume.now d image moves after version c.args.gone.now c.args.come.now c.args.start.now may c.requires.few start c.release_root.ensures.gives.only (honest_on c.release_root.ensures.gives.only.nothing.only.goes may.works.told.0) c.edit.new.self (c.in_ok-edit.ensures.ok ∙ ap (with_catalog_image c.args.volume.now.meta) c.deref.ensures.value)
    (g.D.World.outside c.commit.new.disk) c.commit.new.log c.commit.new.meta c.in_ok-commit.ensures.done (honest_on c.commit.ensures.only.goes (honest_on c.release_root.ensures.gives.only.nothing.only.goes may.works.told.0)) c.checkpoint.ensures.any_moment))

pub returns-clause-any_moment : goal.returns-clause-any_moment
returns-clause-any_moment g c =
    λ w before d image moves after version may start. leaves_trans (StandsForVolume d image) (first_moments before c.args.volume.now d image moves after version c.args.gone.now c.args.come.now c.args.start.now may c.requires.few start (g.D.World.is_world c.args.disk.now) c.release_root.ensures.gives.only)
    (leaves_trans (StandsForVolume d image) (commit_moments before c.args.volume.now d image moves after version c.args.gone.now c.args.come.now c.args.start.now may c.requires.few start c.release_root.ensures.gives.only (honest_on c.release_root.ensures.gives.only.nothing.only.goes may.works.told.0) c.edit.new.self (c.in_ok-edit.ensures.ok ∙ ap (with_catalog_image c.args.volume.now.meta) c.deref.ensures.value)
    c.commit.ensures.any_moment)
    (home_moments before c.args.volume.now d image moves after version c.args.gone.now c.args.come.now c.args.start.now may c.requires.few start c.release_root.ensures.gives.only (honest_on c.release_root.ensures.gives.only.nothing.only.goes may.works.told.0) c.edit.new.self (c.in_ok-edit.ensures.ok ∙ ap (with_catalog_image c.args.volume.now.meta) c.deref.ensures.value)
    (g.D.World.outside c.commit.new.disk) c.commit.new.log c.commit.new.meta c.in_ok-commit.ensures.done (honest_on c.commit.ensures.only.goes (honest_on c.release_root.ensures.gives.only.nothing.only.goes may.works.told.0)) c.checkpoint.ensures.any_moment))

pub returns-in_err-release_root-clause-sound : goal.returns-in_err-release_root-clause-sound
returns-in_err-release_root-clause-sound g c =
    if_err_handed c.from_residual-in_err-release_root.result _ _ c.from_residual-in_err-release_root.ensures.1 (λ damage w before d image moves after version may. c.in_err-release_root.ensures.sound (damage_told _ damage)
    (gone_owns before c.args.volume.now d image moves after version c.args.gone.now c.args.come.now c.args.start.now may c.requires.few c.own_root.new.units c.own_root.ensures.counts))

pub returns-in_err-release_root-clause-told : goal.returns-in_err-release_root-clause-told
returns-in_err-release_root-clause-told g c =
    if_err_handed c.from_residual-in_err-release_root.result _ _ c.from_residual-in_err-release_root.ensures.1 (never_told _)

pub returns-in_err-release_root-clause-cause : goal.returns-in_err-release_root-clause-cause
returns-in_err-release_root-clause-cause g c =
    if_err_handed c.from_residual-in_err-release_root.result _ _ c.from_residual-in_err-release_root.ensures.1 (cause_told (g.D.World.outside c.args.disk.now) (g.D.World.outside c.release_root.new.disk) _ c.in_err-release_root.ensures.cause)

pub returns-in_err-commit-clause-sound : goal.returns-in_err-commit-clause-sound
returns-in_err-commit-clause-sound g c =
    if_err_handed c.from_residual-in_err-commit.result _ _ c.from_residual-in_err-commit.ensures.1 (λ damage w before d image moves after version may. no_damage _ damage)

pub returns-in_err-commit-clause-told : goal.returns-in_err-commit-clause-told
returns-in_err-commit-clause-told g c =
    if_err_handed c.from_residual-in_err-commit.result _ _ c.from_residual-in_err-commit.ensures.1 (never_uncommitted _)

pub returns-in_err-commit-clause-cause : goal.returns-in_err-commit-clause-cause
returns-in_err-commit-clause-cause g c =
    if_err_handed c.from_residual-in_err-commit.result _ _ c.from_residual-in_err-commit.ensures.1 (cause_uncommitted (g.D.World.outside c.args.disk.now) (g.D.World.outside c.release_root.new.disk) (g.D.World.outside c.commit.new.disk) _ c.release_root.ensures.gives.only (λ disk. c.commit.ensures.disk (c.in_err-commit.was ∙ ap Err disk)))

pub returns-clause-moved : goal.returns-clause-moved
returns-clause-moved g c =
    λ w before d image moves after version may start. settled before c.args.volume.now d image moves after version c.args.gone.now c.args.come.now c.args.start.now may c.requires.few start c.release_root.ensures.gives.only (honest_on c.release_root.ensures.gives.only.nothing.only.goes may.works.told.0) c.edit.new.self (c.in_ok-edit.ensures.ok ∙ ap (with_catalog_image c.args.volume.now.meta) c.deref.ensures.value)
    (g.D.World.outside c.commit.new.disk) c.commit.new.log c.commit.new.meta c.in_ok-commit.ensures.done (honest_on c.commit.ensures.only.goes (honest_on c.release_root.ensures.gives.only.nothing.only.goes may.works.told.0)) (g.D.World.outside c.checkpoint.new.disk) c.checkpoint.new.log c.checkpoint.new.meta c.in_ok-checkpoint.ensures.done c.own_root.new.units c.release_root.new.units c.checkpoint.new.groups c.own_root.ensures.counts c.release_root.ensures.gives.fewer
    c.in_ok-release_root.ensures.released
    (told_after c.args.volume.now.groups c.release_root.new.groups c.commit.new.groups c.checkpoint.new.groups c.release_root.ensures.gives.only c.commit.ensures.only c.checkpoint.ensures.only may.works.told (gives_tells c.release_root.ensures.gives) c.commit.ensures.lends c.commit.ensures.behind c.checkpoint.ensures.lends (commit_behind c.args.volume.now c.args.start.now.catalog.items c.args.come.now c.edit.new.self c.own_root.new.units c.release_root.new.units c.release_root.new.groups (gave_of c.args.volume.now c.args.start.now.catalog.items c.args.come.now c.edit.new.self c.own_root.new.units c.release_root.new.units c.release_root.new.groups c.requires.ready c.requires.log c.requires.committed c.requires.few
    (c.in_ok-edit.ensures.ok ∙ ap (with_catalog_image c.args.volume.now.meta) c.deref.ensures.value) c.edit.ensures.touches c.own_root.ensures.counts (c.own_root.ensures.counted c.args.volume.now.geometry c.requires.ready.fits.counted) c.release_root.ensures.gives)))
    (idle_after c.args.volume.now c.args.start.now.catalog.items c.args.come.now c.edit.new.self c.own_root.new.units c.release_root.new.units c.release_root.new.groups
    (gave_of c.args.volume.now c.args.start.now.catalog.items c.args.come.now c.edit.new.self c.own_root.new.units c.release_root.new.units c.release_root.new.groups c.requires.ready c.requires.log c.requires.committed c.requires.few
    (c.in_ok-edit.ensures.ok ∙ ap (with_catalog_image c.args.volume.now.meta) c.deref.ensures.value) c.edit.ensures.touches c.own_root.ensures.counts (c.own_root.ensures.counted c.args.volume.now.geometry c.requires.ready.fits.counted) c.release_root.ensures.gives) c.commit.new.log c.commit.new.meta c.commit.new.groups
    (kept_of c.args.volume.now c.edit.new.self c.release_root.new.groups c.commit.new.log c.commit.new.meta c.commit.new.groups c.commit.ensures.only c.commit.ensures.same_geometry c.commit.ensures.log_geometry c.commit.ensures.sizes c.commit.ensures.kinds c.commit.ensures.behind c.commit.ensures.logged c.in_ok-commit.ensures.working)
    c.checkpoint.new.log c.checkpoint.new.meta c.checkpoint.new.groups
    (wrote_of c.commit.new.log c.commit.new.meta c.commit.new.groups c.checkpoint.new.log c.checkpoint.new.meta c.checkpoint.new.groups c.checkpoint.ensures.only c.checkpoint.ensures.nothing c.in_ok-checkpoint.ensures.closed c.in_ok-checkpoint.ensures.emptied c.checkpoint.ensures.working c.checkpoint.ensures.same_geometry c.checkpoint.ensures.sizes c.checkpoint.ensures.kinds c.checkpoint.ensures.behind))

pub returns-in_err-checkpoint-clause-cause : goal.returns-in_err-checkpoint-clause-cause
returns-in_err-checkpoint-clause-cause g c =
    if_err_handed c.from_residual-in_err-checkpoint.result _ _ c.from_residual-in_err-checkpoint.ensures.1
    (omega (arith, c.release_root.ensures.gives.only.nothing.only.goes.disk_faults, c.commit.ensures.only.goes.disk_faults, c.in_err-checkpoint.ensures.cause))

-- ---- what else is promised

pub returns-in_err-edit-clause-idle : goal.returns-in_err-edit-clause-idle
returns-in_err-edit-clause-idle g c = no_value c.from_residual.result _ _ c.from_residual.ensures.1

pub returns-in_err-edit-clause-moved : goal.returns-in_err-edit-clause-moved
returns-in_err-edit-clause-moved g c = no_value c.from_residual.result _ _ c.from_residual.ensures.1

pub returns-in_err-release_root-clause-idle : goal.returns-in_err-release_root-clause-idle
returns-in_err-release_root-clause-idle g c = no_value c.from_residual-in_err-release_root.result _ _ c.from_residual-in_err-release_root.ensures.1

pub returns-in_err-release_root-clause-moved : goal.returns-in_err-release_root-clause-moved
returns-in_err-release_root-clause-moved g c = no_value c.from_residual-in_err-release_root.result _ _ c.from_residual-in_err-release_root.ensures.1

pub returns-in_err-commit-clause-idle : goal.returns-in_err-commit-clause-idle
returns-in_err-commit-clause-idle g c = no_value c.from_residual-in_err-commit.result _ _ c.from_residual-in_err-commit.ensures.1

pub returns-in_err-commit-clause-moved : goal.returns-in_err-commit-clause-moved
returns-in_err-commit-clause-moved g c = no_value c.from_residual-in_err-commit.result _ _ c.from_residual-in_err-commit.ensures.1

pub returns-in_err-checkpoint-clause-idle : goal.returns-in_err-checkpoint-clause-idle
returns-in_err-checkpoint-clause-idle g c = no_value c.from_residual-in_err-checkpoint.result _ _ c.from_residual-in_err-checkpoint.ensures.1

pub returns-in_err-checkpoint-clause-moved : goal.returns-in_err-checkpoint-clause-moved
returns-in_err-checkpoint-clause-moved g c = no_value c.from_residual-in_err-checkpoint.result _ _ c.from_residual-in_err-checkpoint.ensures.1

pub returns-clause-sound : goal.returns-clause-sound
returns-clause-sound g c = tt

pub returns-clause-told : goal.returns-clause-told
returns-clause-told g c = tt

pub returns-clause-cause : goal.returns-clause-cause
returns-clause-cause g c = tt

pub returns-in_err-commit-clause-only : goal.returns-in_err-commit-clause-only
returns-in_err-commit-clause-only g c = disk_trans c.release_root.ensures.gives.only.nothing.only c.commit.ensures.only

pub returns-in_err-checkpoint-clause-only : goal.returns-in_err-checkpoint-clause-only
returns-in_err-checkpoint-clause-only g c = disk_trans c.release_root.ensures.gives.only.nothing.only (disk_trans c.commit.ensures.only c.checkpoint.ensures.only)

pub returns-clause-only : goal.returns-clause-only
returns-clause-only g c = disk_trans c.release_root.ensures.gives.only.nothing.only (disk_trans c.commit.ensures.only c.checkpoint.ensures.only)

pub returns-in_err-checkpoint-clause-sound : goal.returns-in_err-checkpoint-clause-sound
returns-in_err-checkpoint-clause-sound g c =
    if_err_handed c.from_residual-in_err-checkpoint.result _ _ c.from_residual-in_err-checkpoint.ensures.1 (λ damage w before d image moves after version may. damage)
