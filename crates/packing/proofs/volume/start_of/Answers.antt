use Rattle.std.proofs.Common.{◌∙◌, List, ℕ, ap, refl, subst, sym, arith}
use Rattle.ex_base.proofs.Results.{cause_handed, if_err_handed}
use Rattle.object_files.specs.Catalog.{Catalog, CatalogOf}
use Rattle.volume_model.proofs.OneReading.{one_catalog}
use Rattle.packing.proofs.Handed.{cause_here, no_value}
use Rattle.packing.proofs.volume.start_of.Goals as goal

pub returns-in_err-last-clause-sound : goal.returns-in_err-last-clause-sound
returns-in_err-last-clause-sound g c = if_err_handed c.from_residual-in_err-last.result _ _ c.from_residual-in_err-last.ensures.1 (λ damage d image rests.
    c.in_err-last.ensures.sound d.volume.catalog
    (subst (λ (page : List ℕ). CatalogOf page d.volume.catalog) (sym (c.deref.ensures.value ∙ c.in_ok-catalog.ensures.bytes d image rests)) rests.committed.parts.1.1.0.0))

pub returns-in_err-last-clause-cause : goal.returns-in_err-last-clause-cause
returns-in_err-last-clause-cause g c =
    let before = (g.D.World.outside c.args.disk.now).disk_faults in
    let now = (g.D.World.outside c.read_catalog.new.disk).disk_faults in
    cause_handed before before now c.from_residual-in_err-last.result _ c.from_residual-in_err-last.ensures.1 (omega arith) (c.in_err-last.ensures.cause before now)

pub returns-clause-start : goal.returns-clause-start
returns-clause-start g c = λ d image rests.
    let bytes = c.in_ok-catalog.ensures.bytes d image rests in
    let stands = subst (λ (page : List ℕ). CatalogOf page d.volume.catalog) (sym (c.deref.ensures.value ∙ bytes)) rests.committed.parts.1.1.0.0 in
    let last = c.in_ok-last.ensures.last in
    record {
      catalog = bytes;
      last = last.2 ∙ ap (λ (x : Catalog). x.last) (one_catalog c.deref.result.now last.0 d.volume.catalog last.1 stands);
    }

-- ---- what else is promised

pub returns-in_err-catalog-clause-start : goal.returns-in_err-catalog-clause-start
returns-in_err-catalog-clause-start g c = no_value c.from_residual.result _ c.in_err-catalog.field-0.0 c.from_residual.ensures.1

pub returns-in_err-catalog-clause-segs : goal.returns-in_err-catalog-clause-segs
returns-in_err-catalog-clause-segs g c = no_value c.from_residual.result _ c.in_err-catalog.field-0.0 c.from_residual.ensures.1

pub returns-in_err-catalog-clause-pages : goal.returns-in_err-catalog-clause-pages
returns-in_err-catalog-clause-pages g c = no_value c.from_residual.result _ c.in_err-catalog.field-0.0 c.from_residual.ensures.1

pub returns-in_err-catalog-clause-len : goal.returns-in_err-catalog-clause-len
returns-in_err-catalog-clause-len g c = no_value c.from_residual.result _ c.in_err-catalog.field-0.0 c.from_residual.ensures.1

pub returns-in_err-catalog-clause-keeps : goal.returns-in_err-catalog-clause-keeps
returns-in_err-catalog-clause-keeps g c = c.read_catalog.ensures.keeps

pub returns-in_err-catalog-clause-sound : goal.returns-in_err-catalog-clause-sound
returns-in_err-catalog-clause-sound g c = if_err_handed c.from_residual.result _ c.in_err-catalog.field-0.0 c.from_residual.ensures.1 (λ damage d image rests. c.in_err-catalog.ensures.no_damage damage)

pub returns-in_err-catalog-clause-cause : goal.returns-in_err-catalog-clause-cause
returns-in_err-catalog-clause-cause g c = cause_here (g.D.World.outside c.args.disk.now).disk_faults (g.D.World.outside c.read_catalog.new.disk).disk_faults c.from_residual.result c.in_err-catalog.field-0.0 c.from_residual.ensures.1 c.in_err-catalog.ensures.cause

pub returns-in_err-last-clause-start : goal.returns-in_err-last-clause-start
returns-in_err-last-clause-start g c = no_value c.from_residual-in_err-last.result _ _ c.from_residual-in_err-last.ensures.1

pub returns-in_err-last-clause-segs : goal.returns-in_err-last-clause-segs
returns-in_err-last-clause-segs g c = no_value c.from_residual-in_err-last.result _ _ c.from_residual-in_err-last.ensures.1

pub returns-in_err-last-clause-pages : goal.returns-in_err-last-clause-pages
returns-in_err-last-clause-pages g c = no_value c.from_residual-in_err-last.result _ _ c.from_residual-in_err-last.ensures.1

pub returns-in_err-last-clause-len : goal.returns-in_err-last-clause-len
returns-in_err-last-clause-len g c = no_value c.from_residual-in_err-last.result _ _ c.from_residual-in_err-last.ensures.1

pub returns-in_err-last-clause-keeps : goal.returns-in_err-last-clause-keeps
returns-in_err-last-clause-keeps g c = c.read_catalog.ensures.keeps

pub returns-clause-keeps : goal.returns-clause-keeps
returns-clause-keeps g c = c.read_catalog.ensures.keeps

pub returns-clause-segs : goal.returns-clause-segs
returns-clause-segs g c = refl

pub returns-clause-len : goal.returns-clause-len
returns-clause-len g c = c.in_ok-catalog.ensures.len

pub returns-clause-sound : goal.returns-clause-sound
returns-clause-sound g c = tt

pub returns-clause-cause : goal.returns-clause-cause
returns-clause-cause g c = tt
