use Rattle.std.proofs.Common.{◌≡◌, ℕ, List, length, Some, ◌∙◌, sym, subst, ap, arith}
use Rattle.ex_base.specs.Area.{catalog_no}
use Rattle.ex_base.specs.Sizes.{most_page}
use Rattle.disk_model.specs.Outside.{ReadsOnly}
use Rattle.disk_model.specs.Runs.{reads_trans}
use Rattle.object_files.specs.Catalog.{Catalog}
use Rattle.page_alloc.specs.UnitSet.{refs_at, used_at}
use Rattle.session_views.specs.declared.Part.TheVariants.{Catalog as CatalogPart}
use Rattle.volume_port.specs.Logged.{is_held}
use Rattle.op_log.specs.AfterLog.{after_log, logged, AllApply}
use Rattle.op_log.specs.Log.{SaysLog}
use Rattle.volume_model.specs.Parts.{HasRecords}
use Rattle.op_log.specs.declared.record.LogRecord.{LogRecord}
use Rattle.op_log.specs.Decoding.{last_number}
use Rattle.meta_pages.specs.Overlays.{committed_image, image_at}
use Rattle.restart.proofs.BadParts.{catalog_bad, content_bad}
use Rattle.restart.proofs.LastRecord.{count_within}
use Rattle.restart.proofs.Opened.{catalog_after_log, catalog_before_log, no_working, none_logged, page_after_log, reads_as, same_log}
use Rattle.node_walk.proofs.Facts.{handed_err}
use Rattle.restart.proofs.Superblocks.{part_is_bad}
use Rattle.volume_port.specs.declared.state.VolumeState.{VolumeState}
use Rattle.restart.specs.Opening.{HasCatalog}
use Rattle.restart.proofs.opening.read_volume.Given as given
use Rattle.restart.proofs.opening.read_volume.Goals as goal
use Rattle.restart.proofs.opening.read_volume.Goals.{After-test_catalog, After-walk_volume}

pub returns-in_err-geometry-clause-bad : goal.returns-in_err-geometry-clause-bad
returns-in_err-geometry-clause-bad g c part is image holds = c.in_err-geometry.ensures.bad part (handed_err c.from_residual.result _ _ c.from_residual.ensures.1 is) image holds

pub returns-in_err-records-clause-bad : goal.returns-in_err-records-clause-bad
returns-in_err-records-clause-bad g c part is image holds =
    c.in_err-records.ensures.bad part (handed_err c.from_residual-in_err-records.result _ _ c.from_residual-in_err-records.ensures.1 is) image (c.read_geometry.ensures.only.nothing.disk ∙ holds) (c.in_ok-geometry.ensures.found image holds)

pub returns-in_err-meta-clause-bad : goal.returns-in_err-meta-clause-bad
returns-in_err-meta-clause-bad g c part is image holds =
    c.in_err-meta.ensures.bad part (handed_err c.from_residual-in_err-meta.result _ _ c.from_residual-in_err-meta.ensures.1 is) image (c.in_ok-geometry.ensures.found image holds)
    (subst (λ (rs : List LogRecord). SaysLog c.in_ok-geometry.geometry rs image) (sym c.as_slice.ensures) (c.in_ok-records.ensures.records image (c.read_geometry.ensures.only.nothing.disk ∙ holds)))

-- the log's records, each of whose entries applies
says : (g : given.Over) (c : After-test_catalog g) (image : List ℕ) → (g.D.World.outside c.args.disk.now).disk ≡ Some image → HasRecords c.in_ok-geometry.geometry image c.in_ok-records.records
says g c image holds = record {
  says = c.in_ok-records.ensures.records image (c.read_geometry.ensures.only.nothing.disk ∙ holds);
  apply = subst AllApply c.as_slice.ensures c.in_ok-meta.ensures.apply;
}

-- each page's image is what the log has of it
just : (g : given.Over) (c : After-test_catalog g) (page : ℕ) → committed_image c.in_ok-meta.meta page ≡ logged c.in_ok-records.records page
just g c page = c.in_ok-meta.ensures.just page ∙ ap (λ (rs : List LogRecord). logged rs page) c.as_slice.ensures

-- the page that was tested
tested : (g : given.Over) (c : After-test_catalog g) (image : List ℕ) → (g.D.World.outside c.args.disk.now).disk ≡ Some image → c.deref.result.now ≡ after_log c.in_ok-geometry.geometry c.in_ok-records.records image catalog_no
tested g c image holds =
    page_after_log c.in_ok-geometry.geometry image c.in_ok-records.records c.in_ok-meta.meta c.deref.result.now (just g c)
    (c.deref.ensures.value ∙ c.in_ok-page.ensures.page image (c.read_log.ensures.only.nothing.disk ∙ (c.read_geometry.ensures.only.nothing.disk ∙ holds)))

number : (g : given.Over) (c : After-test_catalog g) → c.last_txn.result ≡ last_number c.in_ok-records.records
number g c = c.last_txn.ensures ∙ ap last_number c.as_slice-2.ensures

-- the page's catalog is the one after the log
tested_is : (g : given.Over) (c : After-test_catalog g) (image : List ℕ) (k : Catalog) → (g.D.World.outside c.args.disk.now).disk ≡ Some image → HasCatalog c.deref.result.now c.last_txn.result k
    → HasCatalog (after_log c.in_ok-geometry.geometry c.in_ok-records.records image catalog_no) (last_number c.in_ok-records.records) k
tested_is g c image k holds here = catalog_after_log c.in_ok-geometry.geometry image c.in_ok-records.records c.deref.result.now c.last_txn.result k (tested g c image holds) (number g c) here

pub returns-in_default-clause-bad : goal.returns-in_default-clause-bad
returns-in_default-clause-bad g c part is image holds =
    let after = (goal.at.returns-in_default-clause-bad g c).After-test_catalog in
    part_is_bad VolumeState CatalogPart part image is
    (catalog_bad image c.in_ok-geometry.geometry c.in_ok-records.records (c.in_ok-geometry.ensures.found image holds) (says g after image holds)
    (λ k here. c.in_default.ensures.none k (catalog_before_log c.in_ok-geometry.geometry image c.in_ok-records.records c.deref.result.now c.last_txn.result k (tested g after image holds) (number g after) here)))

-- what the walks find the pages to be
shown : (g : given.Over) (c : After-test_catalog g) (page : ℕ) → image_at c.in_ok-meta.meta page ≡ logged c.in_ok-records.records page
shown g c page = no_working c.in_ok-meta.meta page c.in_ok-meta.ensures.working ∙ just g c page

held : (g : given.Over) (c : After-test_catalog g) (image : List ℕ) → (g.D.World.outside c.args.disk.now).disk ≡ Some image → (g.D.World.outside c.read_catalog.new.disk).disk ≡ Some image
held g c image holds = c.read_catalog.ensures.only.nothing.disk ∙ (c.read_log.ensures.only.nothing.disk ∙ (c.read_geometry.ensures.only.nothing.disk ∙ holds))

pub returns-in_err-reached-clause-bad : goal.returns-in_err-reached-clause-bad
returns-in_err-reached-clause-bad g c part is image holds =
    let after = (goal.at.returns-in_err-reached-clause-bad g c).After-test_catalog in
    content_bad image c.in_ok-geometry.geometry c.in_ok-records.records (c.in_ok-geometry.ensures.found image holds) (says g after image holds)
    c.in-Some.catalog (tested_is g after image c.in-Some.catalog holds c.in-Some.ensures.found) part
    (c.in_err-reached.ensures.bad part image c.in_ok-records.records (handed_err c.from_residual-in_err-reached.result _ _ c.from_residual-in_err-reached.ensures.1 is) (held g after image holds) (shown g after))

only : (g : given.Over) (c : After-walk_volume g) → ReadsOnly (g.D.World.outside c.args.disk.now) (g.D.World.outside c.walk_volume.new.disk)
only g c = reads_trans (reads_trans (reads_trans c.read_geometry.ensures.only c.read_log.ensures.only) c.read_catalog.ensures.only) c.walk_volume.ensures.only

pub returns-in-Ok-clause-only : goal.returns-in-Ok-clause-only
returns-in-Ok-clause-only g c = only g (goal.at.returns-in-Ok-clause-only g c).After-walk_volume

pub returns-clause-only : goal.returns-clause-only
returns-clause-only g c = only g (goal.at.returns-clause-only g c).After-walk_volume

pub overflow_cast-count : goal.overflow_cast-count
overflow_cast-count g c = omega (arith, ap length c.as_slice-3.ensures, count_within c.in_ok-records.records, c.in_ok-records.ensures.inside, most_page c.in_ok-geometry.geometry)

pub make_parts-requires-clause-count : goal.make_parts-requires-clause-count
make_parts-requires-clause-count g c = omega (arith, ap length c.as_slice-3.ensures, count_within c.in_ok-records.records, c.end.ensures)

pub returns-in-Ok-clause-logged : goal.returns-in-Ok-clause-logged
returns-in-Ok-clause-logged g c =
    let after = (goal.at.returns-in-Ok-clause-logged g c).After-test_catalog in
    none_logged c.in_ok-geometry.geometry c.in_ok-records.records c.in_ok-meta.meta c.in-Ok.parts.meta c.in-Ok.parts.log (just g after) c.in-Ok.ensures.meta
    (c.in-Ok.ensures.log ∙ same_log c.in_ok-geometry.geometry c.end.ensures (ap length c.as_slice-3.ensures))

pub returns-in-Ok-clause-reads : goal.returns-in-Ok-clause-reads
returns-in-Ok-clause-reads g c image holds =
    let after = (goal.at.returns-in-Ok-clause-reads g c).After-test_catalog in
    let made = c.in-Ok.ensures in
    let p = c.in-Ok.parts in
    reads_as image c.in_ok-geometry.geometry p.geometry c.in_ok-records.records c.in-Some.catalog c.in_ok-meta.meta p.meta p.log c.in_ok-reached.reached (used_at p.units) (refs_at p.units) (is_held p.pages)
    (c.in_ok-geometry.ensures.found image holds) (says g after image holds) (tested_is g after image c.in-Some.catalog holds c.in-Some.ensures.found)
    (c.in_ok-reached.ensures.holds image c.in_ok-records.records (held g after image holds) (shown g after)) (just g after) made.meta made.geometry
    (made.log ∙ same_log c.in_ok-geometry.geometry c.end.ensures (ap length c.as_slice-3.ensures)) (ap used_at made.units) (ap refs_at made.units) (ap is_held made.pages)
