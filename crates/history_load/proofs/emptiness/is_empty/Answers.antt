use Rattle.std.proofs.Common.{List, ℕ, unwrap_or, ap, sym, subst, ◌∙◌}
use Rattle.ex_base.specs.declared.geometry.Geometry.{Geometry}
use Rattle.ex_base.specs.Area.{catalog_no, page_at}
use Rattle.meta_pages.specs.Overlays.{committed_image}
use Rattle.object_files.specs.Catalog.{CatalogOf}
use Rattle.restart.proofs.BadParts.{catalog_page}
use Rattle.restart.proofs.Opened.{page_after_log}
use Rattle.volume_model.specs.Volume.{units_of}
use Rattle.history_load.proofs.EmptyCatalogs.{empty_is_fresh, fresh_is_empty}
use Rattle.history_load.proofs.emptiness.is_empty.Goals as goal

pub returns-clause-empty : goal.returns-clause-empty
returns-clause-empty g c d image rests =
    let v = c.args.volume.now in
    let read = c.deref.ensures.value ∙ c.in_ok-page.ensures.page image rests.holds ∙ ap (λ (g' : Geometry). unwrap_or (committed_image v.meta catalog_no) (page_at g' image catalog_no)) (sym rests.geometry) in
    let here = page_after_log d.geometry image d.records v.meta c.deref.result.now rests.committed.shown.just read ∙ sym (catalog_page d image) in
    let spelled = subst (λ (bytes : List ℕ). CatalogOf bytes d.volume.catalog) (sym here) rests.committed.parts.1.1.0.0 in
    let is = c.is_first_catalog.ensures d.volume.catalog spelled in
    (λ yes. fresh_is_empty (units_of d image) d.volume (is.0 yes), λ empty. is.1 (empty_is_fresh d.geometry d.records (units_of d image) d.volume rests.committed.parts.1.1 empty))
