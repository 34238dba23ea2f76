use Rattle.std.proofs.Common.{◌∙◌, List, ap, sym, subst, arith}
use Rattle.std.specs.Prelude.{slice_range}
use Rattle.ex_base.proofs.Results.{if_err_handed}
use Rattle.ex_base.specs.declared.geometry.Geometry.{Geometry}
use Rattle.disk_model.specs.Runs.{disk_trans}
use Rattle.volume_port.specs.declared.state.VolumeState.{VolumeState}
use Rattle.packing.proofs.Handed.{no_value}
use Rattle.packing.specs.Faults.{told_of}
use Rattle.packing.specs.declared.objects.LargeVersion.{LargeVersion}
use Rattle.packing.proofs.FaultsTold.{cause_told, damage_told, lacks_weaker, never_told, nothing_lacks}
use Rattle.packing.proofs.FileSoFar.{IsRun, file_begun, file_done, keeps_then, lacks_then, never_then, one_packed}
use Rattle.packing.proofs.Moments.{keeps_read}
use Rattle.packing.proofs.Reading.{can_read}
use Rattle.packing.proofs.SoFar.{cause_since}
use Rattle.packing.proofs.volume.pack_file.Goals as goal

pub list_file-requires : goal.list_file-requires
list_file-requires g c = record { ready = can_read (g.D.World.outside c.args.disk.now).size c.args.volume.now c.requires.ready }

-- ---- the file can't be listed

pub returns-in_err-versions-clause-geometry : goal.returns-in_err-versions-clause-geometry
returns-in_err-versions-clause-geometry g c = ap (λ (v : VolumeState). v.geometry) c.list_file.ensures.keeps.rest

pub returns-in_err-versions-clause-only : goal.returns-in_err-versions-clause-only
returns-in_err-versions-clause-only g c = let reads = c.list_file.ensures.keeps.only in reads.nothing.only

pub returns-in_err-versions-clause-lacks : goal.returns-in_err-versions-clause-lacks
returns-in_err-versions-clause-lacks g c =
    if_err_handed c.from_residual.result _ (told_of c.in_err-versions.field-0.0) c.from_residual.ensures.1 (nothing_lacks (told_of c.in_err-versions.field-0.0) _ (never_told c.in_err-versions.field-0.0))

pub returns-in_err-versions-clause-keeps : goal.returns-in_err-versions-clause-keeps
returns-in_err-versions-clause-keeps g c = λ d image e f later has is p.
    keeps_read (g.D.World.outside c.args.disk.now) c.args.volume.now d image p.rests (g.D.World.outside c.list_file.new.disk) (g.D.World.is_world c.args.disk.now) c.list_file.ensures.keeps.only

pub returns-in_err-versions-clause-sound : goal.returns-in_err-versions-clause-sound
returns-in_err-versions-clause-sound g c =
    if_err_handed c.from_residual.result _ (told_of c.in_err-versions.field-0.0) c.from_residual.ensures.1 (λ damage d image e f later has is p.
    c.in_err-versions.ensures.sound (damage_told c.in_err-versions.field-0.0 damage) d image p.rests (e, f, has, is))

pub returns-in_err-versions-clause-cause : goal.returns-in_err-versions-clause-cause
returns-in_err-versions-clause-cause g c =
    if_err_handed c.from_residual.result _ (told_of c.in_err-versions.field-0.0) c.from_residual.ensures.1
    (cause_told (g.D.World.outside c.args.disk.now) (g.D.World.outside c.list_file.new.disk) c.in_err-versions.field-0.0 c.in_err-versions.ensures.cause)

-- ---- object by object

pub objects-init : goal.objects-init
objects-init g c =
    file_begun (g.D.World.outside c.args.disk.now) (g.D.World.outside c.list_file.new.disk) c.args.volume.now c.list_file.new.volume c.args.start.now c.args.file_no c.in_ok-versions.versions.items (g.D.World.is_world c.args.disk.now) c.requires.ready
    c.list_file.ensures.keeps c.in_ok-versions.ensures.listed

pub object_end-end-requires : goal.object_end-end-requires
object_end-end-requires g c = omega (arith, c.objects-test.true, c.len.ensures)

pub pack_object-requires-clause-ready : goal.pack_object-requires-clause-ready
pack_object-requires-clause-ready g c = c.objects.invariant.idle

pub pack_object-requires-clause-catalog : goal.pack_object-requires-clause-catalog
pack_object-requires-clause-catalog g c = c.requires.catalog ∙ ap (λ (geometry : Geometry). geometry.page_size) (sym c.objects.invariant.geometry)

pub objects-preserved : goal.objects-preserved
objects-preserved g c =
    one_packed (g.D.World.outside c.args.disk.now) (g.D.World.outside c.objects.disk) (g.D.World.outside c.pack_object.new.disk) c.args.volume.now c.objects.volume c.pack_object.new.volume c.args.start.now c.args.file_no c.in_ok-versions.versions.items
    c.objects.at c.object_end-end.result (omega (arith, c.objects-test.true, c.len.ensures)) (slice_range c.deref-in-objects.result.now c.objects.at c.object_end-end.result)
    (ap (λ (l : List LargeVersion). slice_range l c.objects.at c.object_end-end.result) c.deref-in-objects.ensures.value)
    (subst (λ (l : List LargeVersion). IsRun l c.objects.at c.object_end-end.result) c.deref.ensures.value
    (record { some = c.object_end-end.ensures.some; same = c.object_end-end.ensures.same; other = c.object_end-end.ensures.other })) c.objects.invariant
    c.in_ok-pack_object.ensures.idle c.pack_object.ensures.geometry c.pack_object.ensures.only c.in_ok-pack_object.ensures.moved c.in_ok-pack_object.ensures.enough c.pack_object.ensures.keeps

pub returns-in_err-pack_object-clause-geometry : goal.returns-in_err-pack_object-clause-geometry
returns-in_err-pack_object-clause-geometry g c = c.pack_object.ensures.geometry ∙ c.objects.invariant.geometry

pub returns-in_err-pack_object-clause-only : goal.returns-in_err-pack_object-clause-only
returns-in_err-pack_object-clause-only g c = disk_trans c.objects.invariant.only c.pack_object.ensures.only

pub returns-in_err-pack_object-clause-lacks : goal.returns-in_err-pack_object-clause-lacks
returns-in_err-pack_object-clause-lacks g c =
    if_err_handed c.from_residual-in_err-pack_object.result _ c.in_err-pack_object.field-0.0 c.from_residual-in_err-pack_object.ensures.1 (lacks_weaker c.in_err-pack_object.field-0.0 _ _ (λ need free lacks d image e f later has is p.
    lacks_then (g.D.World.outside c.args.disk.now) (g.D.World.outside c.objects.disk) (g.D.World.outside c.pack_object.new.disk) c.args.volume.now c.objects.volume c.pack_object.new.volume c.args.start.now c.args.file_no c.in_ok-versions.versions.items
    c.objects.at c.object_end-end.result (omega (arith, c.objects-test.true, c.len.ensures)) (slice_range c.deref-in-objects.result.now c.objects.at c.object_end-end.result)
    (ap (λ (l : List LargeVersion). slice_range l c.objects.at c.object_end-end.result) c.deref-in-objects.ensures.value)
    (subst (λ (l : List LargeVersion). IsRun l c.objects.at c.object_end-end.result) c.deref.ensures.value
    (record { some = c.object_end-end.ensures.some; same = c.object_end-end.ensures.same; other = c.object_end-end.ensures.other })) c.objects.invariant d image e f later has is p need free lacks) c.in_err-pack_object.ensures.lacks)

pub returns-in_err-pack_object-clause-keeps : goal.returns-in_err-pack_object-clause-keeps
returns-in_err-pack_object-clause-keeps g c = λ d image e f later has is p.
    keeps_then (g.D.World.outside c.args.disk.now) (g.D.World.outside c.objects.disk) (g.D.World.outside c.pack_object.new.disk) c.args.volume.now c.objects.volume c.pack_object.new.volume c.args.start.now c.args.file_no c.in_ok-versions.versions.items
    c.objects.at c.object_end-end.result (omega (arith, c.objects-test.true, c.len.ensures)) (slice_range c.deref-in-objects.result.now c.objects.at c.object_end-end.result)
    (ap (λ (l : List LargeVersion). slice_range l c.objects.at c.object_end-end.result) c.deref-in-objects.ensures.value)
    (subst (λ (l : List LargeVersion). IsRun l c.objects.at c.object_end-end.result) c.deref.ensures.value
    (record { some = c.object_end-end.ensures.some; same = c.object_end-end.ensures.same; other = c.object_end-end.ensures.other })) c.objects.invariant d image e f later has is p c.pack_object.ensures.keeps

pub returns-in_err-pack_object-clause-sound : goal.returns-in_err-pack_object-clause-sound
returns-in_err-pack_object-clause-sound g c =
    if_err_handed c.from_residual-in_err-pack_object.result _ c.in_err-pack_object.field-0.0 c.from_residual-in_err-pack_object.ensures.1 (λ damage d image e f later has is p.
    never_then (g.D.World.outside c.args.disk.now) (g.D.World.outside c.objects.disk) (g.D.World.outside c.pack_object.new.disk) c.args.volume.now c.objects.volume c.pack_object.new.volume c.args.start.now c.args.file_no c.in_ok-versions.versions.items
    c.objects.at c.object_end-end.result (omega (arith, c.objects-test.true, c.len.ensures)) (slice_range c.deref-in-objects.result.now c.objects.at c.object_end-end.result)
    (ap (λ (l : List LargeVersion). slice_range l c.objects.at c.object_end-end.result) c.deref-in-objects.ensures.value)
    (subst (λ (l : List LargeVersion). IsRun l c.objects.at c.object_end-end.result) c.deref.ensures.value
    (record { some = c.object_end-end.ensures.some; same = c.object_end-end.ensures.same; other = c.object_end-end.ensures.other })) c.objects.invariant d image e f later has is p (c.in_err-pack_object.ensures.sound damage))

pub returns-in_err-pack_object-clause-cause : goal.returns-in_err-pack_object-clause-cause
returns-in_err-pack_object-clause-cause g c =
    if_err_handed c.from_residual-in_err-pack_object.result _ c.in_err-pack_object.field-0.0 c.from_residual-in_err-pack_object.ensures.1
    (cause_since (g.D.World.outside c.args.disk.now) (g.D.World.outside c.objects.disk) (g.D.World.outside c.pack_object.new.disk) c.in_err-pack_object.field-0.0 c.objects.invariant.only c.in_err-pack_object.ensures.cause)

-- ---- all of them

pub returns-clause-moved : goal.returns-clause-moved
returns-clause-moved g c = λ d image e f later has is p.
    let done = file_done (g.D.World.outside c.args.disk.now) (g.D.World.outside c.objects.disk) c.args.volume.now c.objects.volume c.args.start.now c.args.file_no c.in_ok-versions.versions.items c.objects.at
    (omega (arith, c.objects-test.false, c.len.ensures)) c.objects.invariant d image e f later has is p in
    done.until

pub returns-clause-enough : goal.returns-clause-enough
returns-clause-enough g c = λ d image e f later has is p.
    let done = file_done (g.D.World.outside c.args.disk.now) (g.D.World.outside c.objects.disk) c.args.volume.now c.objects.volume c.args.start.now c.args.file_no c.in_ok-versions.versions.items c.objects.at
    (omega (arith, c.objects-test.false, c.len.ensures)) c.objects.invariant d image e f later has is p in
    done.enough

pub returns-clause-keeps : goal.returns-clause-keeps
returns-clause-keeps g c = λ d image e f later has is p.
    let done = file_done (g.D.World.outside c.args.disk.now) (g.D.World.outside c.objects.disk) c.args.volume.now c.objects.volume c.args.start.now c.args.file_no c.in_ok-versions.versions.items c.objects.at
    (omega (arith, c.objects-test.false, c.len.ensures)) c.objects.invariant d image e f later has is p in
    done.keeps

-- ---- what else is promised

pub returns-in_err-versions-clause-idle : goal.returns-in_err-versions-clause-idle
returns-in_err-versions-clause-idle g c = no_value c.from_residual.result _ (told_of c.in_err-versions.field-0.0) c.from_residual.ensures.1

pub returns-in_err-versions-clause-moved : goal.returns-in_err-versions-clause-moved
returns-in_err-versions-clause-moved g c = no_value c.from_residual.result _ (told_of c.in_err-versions.field-0.0) c.from_residual.ensures.1

pub returns-in_err-versions-clause-enough : goal.returns-in_err-versions-clause-enough
returns-in_err-versions-clause-enough g c = no_value c.from_residual.result _ (told_of c.in_err-versions.field-0.0) c.from_residual.ensures.1

pub returns-in_err-pack_object-clause-idle : goal.returns-in_err-pack_object-clause-idle
returns-in_err-pack_object-clause-idle g c = no_value c.from_residual-in_err-pack_object.result _ c.in_err-pack_object.field-0.0 c.from_residual-in_err-pack_object.ensures.1

pub returns-in_err-pack_object-clause-moved : goal.returns-in_err-pack_object-clause-moved
returns-in_err-pack_object-clause-moved g c = no_value c.from_residual-in_err-pack_object.result _ c.in_err-pack_object.field-0.0 c.from_residual-in_err-pack_object.ensures.1

pub returns-in_err-pack_object-clause-enough : goal.returns-in_err-pack_object-clause-enough
returns-in_err-pack_object-clause-enough g c = no_value c.from_residual-in_err-pack_object.result _ c.in_err-pack_object.field-0.0 c.from_residual-in_err-pack_object.ensures.1

pub returns-clause-idle : goal.returns-clause-idle
returns-clause-idle g c = c.objects.invariant.idle

pub returns-clause-geometry : goal.returns-clause-geometry
returns-clause-geometry g c = c.objects.invariant.geometry

pub returns-clause-only : goal.returns-clause-only
returns-clause-only g c = c.objects.invariant.only

pub returns-clause-lacks : goal.returns-clause-lacks
returns-clause-lacks g c = tt

pub returns-clause-sound : goal.returns-clause-sound
returns-clause-sound g c = tt

pub returns-clause-cause : goal.returns-clause-cause
returns-clause-cause g c = tt
