use Rattle.std.proofs.Common.{◌≡◌, ◌∙◌, ap, arith, length, refl, rules, sym}
use Rattle.std.proofs.lemmas.Result.{IfErr-weaker, on_ok_weaker}
use Rattle.ex_base.proofs.Results.{if_err_handed}
use Rattle.disk_model.specs.Runs.{disk_trans, leaves_trans}
use Rattle.volume_model.specs.Committed.{StandsForVolume}
use Rattle.volume_port.specs.declared.state.VolumeState.{VolumeState}
use Rattle.compact.specs.Moves.{copies_of}
use Rattle.packing.proofs.Handed.{no_value}
use Rattle.packing.proofs.IdleStates.{closed_log, idle_kept}
use Rattle.packing.proofs.PackFaults.{cause_later, cause_told, damage_told, never_told}
use Rattle.packing.proofs.SettledParts.{holds_after}
use Rattle.packing.proofs.UnmovedVersions.{stays_version}
use Rattle.packing.proofs.WorkingMoves.{meanwhile}
use Rattle.packing.proofs.install.install.Goals as goal

-- the root is the old one

pub returns-then-eq-clause-idle : goal.returns-then-eq-clause-idle
returns-then-eq-clause-idle g c =
    let same : c.in_ok-made.made ≡ c.args.version.now.root = search rules in
    idle_kept c.args.volume.now c.move_working.new.volume c.requires.ready c.move_working.ensures.moved (c.in_ok-made.ensures.still same)

pub returns-then-eq-clause-geometry : goal.returns-then-eq-clause-geometry
returns-then-eq-clause-geometry g c = ap (λ (v : VolumeState). v.geometry) c.move_working.ensures.moved.rest

pub returns-then-eq-clause-moved : goal.returns-then-eq-clause-moved
returns-then-eq-clause-moved g c = λ d image rests start own room.
    let same : c.in_ok-made.made ≡ c.args.version.now.root = search rules in
    stays_version c.args.volume.now c.move_working.new.volume d image c.args.start.now.segs (copies_of c.args.moves.now) (copies_of c.move_working.new.moves) c.args.version.now c.in_ok-made.made rests own (c.in_ok-made.ensures.works d image rests own room) same

pub returns-then-eq-clause-any_moment : goal.returns-then-eq-clause-any_moment
returns-then-eq-clause-any_moment g c = λ d image rests start own room. meanwhile c.args.volume.now c.move_working.new.volume c.move_working.ensures.moved d image rests (g.D.World.is_world c.args.disk.now)

-- a fault of the move

pub returns-in_err-made-clause-any_moment : goal.returns-in_err-made-clause-any_moment
returns-in_err-made-clause-any_moment g c = λ d image rests start own room. meanwhile c.args.volume.now c.move_working.new.volume c.move_working.ensures.moved d image rests (g.D.World.is_world c.args.disk.now)

pub returns-in_err-made-clause-told : goal.returns-in_err-made-clause-told
returns-in_err-made-clause-told g c = if_err_handed c.from_residual.result _ _ c.from_residual.ensures.1 (never_told _)

pub returns-in_err-made-clause-sound : goal.returns-in_err-made-clause-sound
returns-in_err-made-clause-sound g c = if_err_handed c.from_residual.result _ _ c.from_residual.ensures.1 (λ damage d image rests own room. c.in_err-made.ensures.sound (damage_told _ damage) d image rests own room)

pub returns-in_err-made-clause-cause : goal.returns-in_err-made-clause-cause
returns-in_err-made-clause-cause g c = if_err_handed c.from_residual.result _ _ c.from_residual.ensures.1 (cause_told (g.D.World.outside c.args.disk.now) (g.D.World.outside c.move_working.new.disk) _ c.in_err-made.ensures.cause)

-- the root is another one

pub returns-clause-moved : goal.returns-clause-moved
returns-clause-moved g c = on_ok_weaker c.settle.result (λ done d image rests start own room.
    let differ : c.in_ok-made.made ≡ c.args.version.now.root → ⊥ = search rules in
    done c.args.disk.now c.args.volume.now d image (copies_of c.args.moves.now) (copies_of c.move_working.new.moves) c.args.version.now
    (record { rests = rests; works = c.in_ok-made.ensures.works d image rests own room; root = refl; differ = differ }) start) c.settle.ensures.moved

pub returns-clause-any_moment : goal.returns-clause-any_moment
returns-clause-any_moment g c = λ d image rests start own room.
    let differ : c.in_ok-made.made ≡ c.args.version.now.root → ⊥ = search rules in
    leaves_trans (StandsForVolume d image)
    (meanwhile c.args.volume.now c.move_working.new.volume c.move_working.ensures.moved d image rests (g.D.World.is_world c.args.disk.now))
    (c.settle.ensures.any_moment c.args.disk.now c.args.volume.now d image (copies_of c.args.moves.now) (copies_of c.move_working.new.moves) c.args.version.now
    (record { rests = rests; works = c.in_ok-made.ensures.works d image rests own room; root = refl; differ = differ }) start)

pub returns-clause-sound : goal.returns-clause-sound
returns-clause-sound g c = IfErr-weaker c.settle.result _ _ (λ fault never damage d image rests own room.
    let differ : c.in_ok-made.made ≡ c.args.version.now.root → ⊥ = search rules in
    never damage c.args.disk.now c.args.volume.now d image (copies_of c.args.moves.now) (copies_of c.move_working.new.moves) c.args.version.now
    (record { rests = rests; works = c.in_ok-made.ensures.works d image rests own room; root = refl; differ = differ })) c.settle.ensures.sound

-- what the disk holds

pub returns-then-eq-clause-holds : goal.returns-then-eq-clause-holds
returns-then-eq-clause-holds g c = λ d image rests start own room.
    holds_after (StandsForVolume d image) image (g.D.World.is_world c.move_working.new.disk) c.move_working.ensures.moved.changes.only rests.holds
    (meanwhile c.args.volume.now c.move_working.new.volume c.move_working.ensures.moved d image rests (g.D.World.is_world c.args.disk.now))

pub returns-in_err-made-clause-holds : goal.returns-in_err-made-clause-holds
returns-in_err-made-clause-holds g c = λ d image rests start own room.
    holds_after (StandsForVolume d image) image (g.D.World.is_world c.move_working.new.disk) c.move_working.ensures.moved.changes.only rests.holds
    (meanwhile c.args.volume.now c.move_working.new.volume c.move_working.ensures.moved d image rests (g.D.World.is_world c.args.disk.now))

pub returns-clause-holds : goal.returns-clause-holds
returns-clause-holds g c = λ d image rests start own room.
    let differ : c.in_ok-made.made ≡ c.args.version.now.root → ⊥ = search rules in
    holds_after (StandsForVolume d image) image (g.D.World.is_world c.settle.new.disk) (disk_trans c.move_working.ensures.moved.changes.only c.settle.ensures.only) rests.holds
    (leaves_trans (StandsForVolume d image)
    (meanwhile c.args.volume.now c.move_working.new.volume c.move_working.ensures.moved d image rests (g.D.World.is_world c.args.disk.now))
    (c.settle.ensures.any_moment c.args.disk.now c.args.volume.now d image (copies_of c.args.moves.now) (copies_of c.move_working.new.moves) c.args.version.now
    (record { rests = rests; works = c.in_ok-made.ensures.works d image rests own room; root = refl; differ = differ }) start))

-- what a settlement asks

pub settle-requires-clause-ready : goal.settle-requires-clause-ready
settle-requires-clause-ready g c = c.move_working.ensures.moved.ready

pub settle-requires-clause-log : goal.settle-requires-clause-log
settle-requires-clause-log g c =
    let rest = c.move_working.ensures.moved.rest in
    ap (λ (v : VolumeState). v.log) rest ∙ c.requires.ready.log ∙ ap closed_log (sym (ap (λ (v : VolumeState). v.geometry) rest))

pub settle-requires-clause-committed : goal.settle-requires-clause-committed
settle-requires-clause-committed g c = c.move_working.ensures.moved.committed ∙ c.requires.ready.committed

pub settle-requires-clause-catalog : goal.settle-requires-clause-catalog
settle-requires-clause-catalog g c = c.requires.catalog ∙ sym (ap (λ (v : VolumeState). v.geometry.page_size) c.move_working.ensures.moved.rest)

pub settle-requires-clause-few : goal.settle-requires-clause-few
settle-requires-clause-few g c =
    let none : length c.args.volume.now.meta.working ≡ 0 = ap length c.requires.ready.working in
    omega (arith, c.in_ok-made.ensures.touches, none)

-- what stays

pub returns-then-eq-clause-only : goal.returns-then-eq-clause-only
returns-then-eq-clause-only g c = c.move_working.ensures.moved.changes.only

pub returns-in_err-made-clause-only : goal.returns-in_err-made-clause-only
returns-in_err-made-clause-only g c = c.move_working.ensures.moved.changes.only

pub returns-clause-only : goal.returns-clause-only
returns-clause-only g c = disk_trans c.move_working.ensures.moved.changes.only c.settle.ensures.only

pub returns-in_err-made-clause-geometry : goal.returns-in_err-made-clause-geometry
returns-in_err-made-clause-geometry g c = ap (λ (v : VolumeState). v.geometry) c.move_working.ensures.moved.rest

pub returns-clause-geometry : goal.returns-clause-geometry
returns-clause-geometry g c = c.settle.ensures.geometry ∙ ap (λ (v : VolumeState). v.geometry) c.move_working.ensures.moved.rest

pub returns-clause-cause : goal.returns-clause-cause
returns-clause-cause g c = IfErr-weaker c.settle.result _ _ (λ fault cause.
    cause_later (g.D.World.outside c.args.disk.now) (g.D.World.outside c.move_working.new.disk) (g.D.World.outside c.settle.new.disk) fault c.move_working.ensures.moved.changes.only.goes.disk_faults cause) c.settle.ensures.cause

-- ---- what else is promised

pub returns-in_err-made-clause-idle : goal.returns-in_err-made-clause-idle
returns-in_err-made-clause-idle g c = no_value c.from_residual.result _ _ c.from_residual.ensures.1

pub returns-in_err-made-clause-moved : goal.returns-in_err-made-clause-moved
returns-in_err-made-clause-moved g c = no_value c.from_residual.result _ _ c.from_residual.ensures.1

pub returns-in_err-made-clause-keeps : goal.returns-in_err-made-clause-keeps
returns-in_err-made-clause-keeps g c = c.move_working.ensures.keeps

pub returns-then-eq-clause-keeps : goal.returns-then-eq-clause-keeps
returns-then-eq-clause-keeps g c = c.move_working.ensures.keeps

pub returns-clause-keeps : goal.returns-clause-keeps
returns-clause-keeps g c = c.move_working.ensures.keeps

pub returns-then-eq-clause-sound : goal.returns-then-eq-clause-sound
returns-then-eq-clause-sound g c = tt

pub returns-then-eq-clause-told : goal.returns-then-eq-clause-told
returns-then-eq-clause-told g c = tt

pub returns-then-eq-clause-cause : goal.returns-then-eq-clause-cause
returns-then-eq-clause-cause g c = tt

pub returns-clause-idle : goal.returns-clause-idle
returns-clause-idle g c = c.settle.ensures.idle

pub returns-clause-told : goal.returns-clause-told
returns-clause-told g c = c.settle.ensures.told
