use Rattle.std.proofs.Common.{ℕ, List, refl, sym, subst, ap, ◌∙◌, arith}
use Rattle.ex_base.proofs.Results.{if_err_handed}
use Rattle.ex_base.specs.declared.geometry.Geometry.{Geometry}
use Rattle.disk_model.specs.Runs.{disk_refl, disk_trans}
use Rattle.object_files.specs.Catalog.{CatalogOf}
use Rattle.object_files.specs.Reads.{entry_of}
use Rattle.packing.proofs.Handed.{no_value}
use Rattle.packing.proofs.FaultsTold.{lacks_weaker}
use Rattle.packing.proofs.Files.{enough_all, file_packed, keeps_all, keeps_then, lacks_then, never_then, no_files, packed_all}
use Rattle.packing.proofs.Moments.{keeps_now}
use Rattle.packing.proofs.SoFar.{cause_since}
use Rattle.packing.proofs.volume.pack_files.Goals as goal

-- ---- the catalog was read, so it is one

pub returns-in_default-clause-only : goal.returns-in_default-clause-only
returns-in_default-clause-only g c = disk_refl (g.D.World.outside c.args.disk.now)

pub returns-in_default-clause-keeps : goal.returns-in_default-clause-keeps
returns-in_default-clause-keeps g c = λ d image p. keeps_now (g.D.World.outside c.args.disk.now) c.args.volume.now d image p.rests (g.D.World.is_world c.args.disk.now)

pub returns-in_default-clause-sound : goal.returns-in_default-clause-sound
returns-in_default-clause-sound g c = λ damage d image p.
    c.in_default.ensures.none d.volume.catalog (subst (λ (page : List ℕ). CatalogOf page d.volume.catalog) (sym p.since.catalog ∙ sym c.deref.ensures.value) p.rests.committed.parts.1.1.0.0)

-- ---- file by file

pub loop-at-init : goal.loop-at-init
loop-at-init g c = no_files (g.D.World.outside c.args.disk.now) c.args.volume.now c.args.start.now (g.D.World.is_world c.args.disk.now) c.requires.ready

pub pack_file-requires-clause-ready : goal.pack_file-requires-clause-ready
pack_file-requires-clause-ready g c = c.loop-at.invariant.idle

pub pack_file-requires-clause-catalog : goal.pack_file-requires-clause-catalog
pack_file-requires-clause-catalog g c = c.requires.catalog ∙ ap (λ (geometry : Geometry). geometry.page_size) (sym c.loop-at.invariant.geometry)

pub loop-at-preserved : goal.loop-at-preserved
loop-at-preserved g c =
    file_packed (g.D.World.outside c.args.disk.now) (g.D.World.outside c.loop-at.disk) (g.D.World.outside c.pack_file.new.disk) c.args.volume.now c.loop-at.volume c.pack_file.new.volume c.args.start.now c.loop-at.at
    c.in-Some.catalog (entry_of c.entry-file_no.result) c.entry-file_no.result.file_no (subst (λ (page : List ℕ). CatalogOf page c.in-Some.catalog) c.deref.ensures.value c.in-Some.ensures.found) c.entry-file_no.ensures refl c.loop-at.invariant
    c.in_ok-pack_file.ensures.idle c.pack_file.ensures.geometry c.pack_file.ensures.only c.in_ok-pack_file.ensures.moved c.in_ok-pack_file.ensures.enough c.pack_file.ensures.keeps

pub returns-in_err-pack_file-clause-geometry : goal.returns-in_err-pack_file-clause-geometry
returns-in_err-pack_file-clause-geometry g c = c.pack_file.ensures.geometry ∙ c.loop-at.invariant.geometry

pub returns-in_err-pack_file-clause-only : goal.returns-in_err-pack_file-clause-only
returns-in_err-pack_file-clause-only g c = disk_trans c.loop-at.invariant.only c.pack_file.ensures.only

pub returns-in_err-pack_file-clause-lacks : goal.returns-in_err-pack_file-clause-lacks
returns-in_err-pack_file-clause-lacks g c =
    if_err_handed c.from_residual.result _ c.in_err-pack_file.field-0.0 c.from_residual.ensures.1 (lacks_weaker c.in_err-pack_file.field-0.0 _ _ (λ need free lacks d image p.
    lacks_then (g.D.World.outside c.args.disk.now) (g.D.World.outside c.loop-at.disk) (g.D.World.outside c.pack_file.new.disk) c.args.volume.now c.loop-at.volume c.pack_file.new.volume c.args.start.now c.loop-at.at
    c.in-Some.catalog (entry_of c.entry-file_no.result) c.entry-file_no.result.file_no (subst (λ (page : List ℕ). CatalogOf page c.in-Some.catalog) c.deref.ensures.value c.in-Some.ensures.found) c.entry-file_no.ensures refl c.loop-at.invariant d image p need free lacks) c.in_err-pack_file.ensures.lacks)

pub returns-in_err-pack_file-clause-keeps : goal.returns-in_err-pack_file-clause-keeps
returns-in_err-pack_file-clause-keeps g c = λ d image p.
    keeps_then (g.D.World.outside c.args.disk.now) (g.D.World.outside c.loop-at.disk) (g.D.World.outside c.pack_file.new.disk) c.args.volume.now c.loop-at.volume c.pack_file.new.volume c.args.start.now c.loop-at.at
    c.in-Some.catalog (entry_of c.entry-file_no.result) c.entry-file_no.result.file_no (subst (λ (page : List ℕ). CatalogOf page c.in-Some.catalog) c.deref.ensures.value c.in-Some.ensures.found) c.entry-file_no.ensures refl c.loop-at.invariant d image p c.pack_file.ensures.keeps

pub returns-in_err-pack_file-clause-sound : goal.returns-in_err-pack_file-clause-sound
returns-in_err-pack_file-clause-sound g c =
    if_err_handed c.from_residual.result _ c.in_err-pack_file.field-0.0 c.from_residual.ensures.1 (λ damage d image p.
    never_then (g.D.World.outside c.args.disk.now) (g.D.World.outside c.loop-at.disk) (g.D.World.outside c.pack_file.new.disk) c.args.volume.now c.loop-at.volume c.pack_file.new.volume c.args.start.now c.loop-at.at
    c.in-Some.catalog (entry_of c.entry-file_no.result) c.entry-file_no.result.file_no (subst (λ (page : List ℕ). CatalogOf page c.in-Some.catalog) c.deref.ensures.value c.in-Some.ensures.found) c.entry-file_no.ensures refl c.loop-at.invariant d image p (c.in_err-pack_file.ensures.sound damage))

pub returns-in_err-pack_file-clause-cause : goal.returns-in_err-pack_file-clause-cause
returns-in_err-pack_file-clause-cause g c =
    if_err_handed c.from_residual.result _ c.in_err-pack_file.field-0.0 c.from_residual.ensures.1
    (cause_since (g.D.World.outside c.args.disk.now) (g.D.World.outside c.loop-at.disk) (g.D.World.outside c.pack_file.new.disk) c.in_err-pack_file.field-0.0 c.loop-at.invariant.only c.in_err-pack_file.ensures.cause)

-- ---- all of them

pub returns-clause-moved : goal.returns-clause-moved
returns-clause-moved g c = λ d image p.
    packed_all (g.D.World.outside c.args.disk.now) (g.D.World.outside c.loop-at.disk) c.args.volume.now c.loop-at.volume c.args.start.now c.loop-at.at c.in-Some.catalog
    (subst (λ (page : List ℕ). CatalogOf page c.in-Some.catalog) c.deref.ensures.value c.in-Some.ensures.found) (omega (arith, c.loop-at-test.false, c.len-at-end.ensures)) c.loop-at.invariant d image p

pub returns-clause-enough : goal.returns-clause-enough
returns-clause-enough g c = λ d image p.
    enough_all (g.D.World.outside c.args.disk.now) (g.D.World.outside c.loop-at.disk) c.args.volume.now c.loop-at.volume c.args.start.now c.loop-at.at c.in-Some.catalog
    (subst (λ (page : List ℕ). CatalogOf page c.in-Some.catalog) c.deref.ensures.value c.in-Some.ensures.found) (omega (arith, c.loop-at-test.false, c.len-at-end.ensures)) c.loop-at.invariant d image p

pub returns-clause-keeps : goal.returns-clause-keeps
returns-clause-keeps g c = λ d image p.
    keeps_all (g.D.World.outside c.args.disk.now) (g.D.World.outside c.loop-at.disk) c.args.volume.now c.loop-at.volume c.args.start.now c.loop-at.at c.in-Some.catalog
    (subst (λ (page : List ℕ). CatalogOf page c.in-Some.catalog) c.deref.ensures.value c.in-Some.ensures.found) (omega (arith, c.loop-at-test.false, c.len-at-end.ensures)) c.loop-at.invariant d image p

-- ---- what else is promised

pub returns-in_default-clause-geometry : goal.returns-in_default-clause-geometry
returns-in_default-clause-geometry g c = refl

pub returns-in_default-clause-moved : goal.returns-in_default-clause-moved
returns-in_default-clause-moved g c = tt

pub returns-in_default-clause-enough : goal.returns-in_default-clause-enough
returns-in_default-clause-enough g c = tt

pub returns-in_err-pack_file-clause-moved : goal.returns-in_err-pack_file-clause-moved
returns-in_err-pack_file-clause-moved g c = no_value c.from_residual.result _ c.in_err-pack_file.field-0.0 c.from_residual.ensures.1

pub returns-in_err-pack_file-clause-enough : goal.returns-in_err-pack_file-clause-enough
returns-in_err-pack_file-clause-enough g c = no_value c.from_residual.result _ c.in_err-pack_file.field-0.0 c.from_residual.ensures.1

pub returns-clause-geometry : goal.returns-clause-geometry
returns-clause-geometry g c = c.loop-at.invariant.geometry

pub returns-clause-only : goal.returns-clause-only
returns-clause-only g c = c.loop-at.invariant.only

pub returns-clause-lacks : goal.returns-clause-lacks
returns-clause-lacks g c = tt

pub returns-clause-sound : goal.returns-clause-sound
returns-clause-sound g c = tt

pub returns-clause-cause : goal.returns-clause-cause
returns-clause-cause g c = tt
