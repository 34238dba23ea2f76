use Rattle.std.proofs.Common.{sym, ap, ◌∙◌, arith}
use Rattle.ex_base.specs.declared.geometry.Geometry.{Geometry}
use Rattle.ex_base.proofs.Results.{if_err_handed}
use Rattle.compact.specs.Moves.{copies_of}
use Rattle.disk_model.specs.Runs.{disk_trans}
use Rattle.packing.proofs.Handed.{no_value}
use Rattle.packing.proofs.SoFar.{all_moved, cause_since, keeps_then, never_then, none_moved, one_more}
use Rattle.packing.proofs.volume.move_versions.Goals as goal

pub loop-version-init : goal.loop-version-init
loop-version-init g c = none_moved (g.D.World.outside c.args.disk.now) c.args.volume.now c.args.start.now c.args.versions.now (copies_of c.make-moves.result) (g.D.World.is_world c.args.disk.now) c.requires.ready c.make-moves.ensures

pub install-requires-clause-ready : goal.install-requires-clause-ready
install-requires-clause-ready g c = c.loop-version.invariant.idle

pub install-requires-clause-catalog : goal.install-requires-clause-catalog
install-requires-clause-catalog g c = c.requires.catalog ∙ ap (λ (geometry : Geometry). geometry.page_size) (sym c.loop-version.invariant.geometry)

pub returns-in_err-install-clause-only : goal.returns-in_err-install-clause-only
returns-in_err-install-clause-only g c = disk_trans c.loop-version.invariant.only c.install.ensures.only

pub returns-in_err-install-clause-geometry : goal.returns-in_err-install-clause-geometry
returns-in_err-install-clause-geometry g c = c.install.ensures.geometry ∙ c.loop-version.invariant.geometry

pub returns-in_err-install-clause-keeps : goal.returns-in_err-install-clause-keeps
returns-in_err-install-clause-keeps g c = λ d image later object p are enough.
    keeps_then (g.D.World.outside c.args.disk.now) (g.D.World.outside c.loop-version.disk) (g.D.World.outside c.install.new.disk) c.args.volume.now c.loop-version.volume c.install.new.volume c.args.start.now c.args.versions.now
    (copies_of c.loop-version.moves) (copies_of c.install.new.moves) c.loop-version.version-index c.loop-version-test.true c.loop-version.invariant
    (record { keeps = c.install.ensures.keeps; any_moment = c.install.ensures.any_moment; holds = c.install.ensures.holds }) d image later object p are enough

pub returns-in_err-install-clause-sound : goal.returns-in_err-install-clause-sound
returns-in_err-install-clause-sound g c =
    if_err_handed c.from_residual.result _ c.in_err-install.field-0.0 c.from_residual.ensures.1 (λ damage d image later object p are enough.
    never_then (g.D.World.outside c.args.disk.now) (g.D.World.outside c.loop-version.disk) (g.D.World.outside c.install.new.disk) c.args.volume.now c.loop-version.volume c.install.new.volume c.args.start.now c.args.versions.now
    (copies_of c.loop-version.moves) (copies_of c.install.new.moves) c.loop-version.version-index c.loop-version-test.true c.loop-version.invariant
    (record { keeps = c.install.ensures.keeps; any_moment = c.install.ensures.any_moment; holds = c.install.ensures.holds }) d image later object p are enough (c.in_err-install.ensures.sound damage))

pub returns-in_err-install-clause-cause : goal.returns-in_err-install-clause-cause
returns-in_err-install-clause-cause g c =
    if_err_handed c.from_residual.result _ c.in_err-install.field-0.0 c.from_residual.ensures.1
    (cause_since (g.D.World.outside c.args.disk.now) (g.D.World.outside c.loop-version.disk) (g.D.World.outside c.install.new.disk) c.in_err-install.field-0.0 c.loop-version.invariant.only c.in_err-install.ensures.cause)

pub loop-version-preserved : goal.loop-version-preserved
loop-version-preserved g c =
    one_more (g.D.World.outside c.args.disk.now) (g.D.World.outside c.loop-version.disk) (g.D.World.outside c.install.new.disk) c.args.volume.now c.loop-version.volume c.install.new.volume c.args.start.now c.args.versions.now
    (copies_of c.loop-version.moves) (copies_of c.install.new.moves) c.loop-version.version-index c.loop-version-test.true c.loop-version.invariant
    (record { keeps = c.install.ensures.keeps; any_moment = c.install.ensures.any_moment; holds = c.install.ensures.holds }) c.in_ok-install.ensures.idle c.install.ensures.geometry c.install.ensures.only c.in_ok-install.ensures.moved

pub returns-clause-idle : goal.returns-clause-idle
returns-clause-idle g c = c.loop-version.invariant.idle

pub returns-clause-moved : goal.returns-clause-moved
returns-clause-moved g c = λ d image later object p are enough.
    all_moved (g.D.World.outside c.args.disk.now) (g.D.World.outside c.loop-version.disk) c.args.volume.now c.loop-version.volume c.args.start.now c.args.versions.now (copies_of c.loop-version.moves) c.loop-version.version-index
    (omega (arith, c.loop-version-test.false)) c.loop-version.invariant d image later object p are enough

pub returns-clause-keeps : goal.returns-clause-keeps
returns-clause-keeps g c = λ d image later object p are enough. let both = c.loop-version.invariant.until d image later object p are enough in both.1

-- ---- what else is promised

pub returns-in_err-install-clause-idle : goal.returns-in_err-install-clause-idle
returns-in_err-install-clause-idle g c = no_value c.from_residual.result _ c.in_err-install.field-0.0 c.from_residual.ensures.1

pub returns-in_err-install-clause-moved : goal.returns-in_err-install-clause-moved
returns-in_err-install-clause-moved g c = no_value c.from_residual.result _ c.in_err-install.field-0.0 c.from_residual.ensures.1

pub returns-in_err-install-clause-told : goal.returns-in_err-install-clause-told
returns-in_err-install-clause-told g c = if_err_handed c.from_residual.result _ c.in_err-install.field-0.0 c.from_residual.ensures.1 c.in_err-install.ensures.told

pub returns-clause-geometry : goal.returns-clause-geometry
returns-clause-geometry g c = c.loop-version.invariant.geometry

pub returns-clause-only : goal.returns-clause-only
returns-clause-only g c = c.loop-version.invariant.only

pub returns-clause-told : goal.returns-clause-told
returns-clause-told g c = tt

pub returns-clause-sound : goal.returns-clause-sound
returns-clause-sound g c = tt

pub returns-clause-cause : goal.returns-clause-cause
returns-clause-cause g c = tt
