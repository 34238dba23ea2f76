use Rattle.std.proofs.Common.{◌≡◌, subst, length, arith, List, ap, sym, ℕ, ◌∙◌}
use Rattle.file_bodies.proofs.Pages.{is_page}
use Rattle.file_bodies.proofs.Indexing.{root_placed, taken_index, taken_lies}
use Rattle.file_bodies.proofs.Fresh.{first_placed, fresh_placed, fresh_puts, still_catalog, still_entry}
use Rattle.ex_base.specs.declared.geometry.Geometry.{Geometry}
use Rattle.file_index.specs.Damage.{HasWay, IsAddingFault}
use Rattle.file_bodies.specs.Damage.{adding, fresh, IsFileFault, unlisted_file}
use Rattle.file_index.specs.Index.{HasPlacedRoot}
use Rattle.ex_base.proofs.Handed.{cause_after}
use Rattle.ex_base.specs.declared.names.Area.TheVariants.{Page, Segment}
use Rattle.file_bodies.proofs.PagesGone.{took_takes}
use Rattle.file_index.proofs.LaterStates.{page_after}
use Rattle.file_bodies.proofs.LaterSizes.{size_after}
use Rattle.ex_base.specs.declared.names.Area.{Area}
use Rattle.ex_base.specs.Area.{catalog_no}
use Rattle.file_bodies.proofs.OwnFaults.{own_file}
use Rattle.file_bodies.proofs.TouchedPages.{free_new, touched_new, free_enough}
use Rattle.file_bodies.proofs.placing.put_on_new_page.Goals as goal

pub insert_body-requires-clause-page : goal.insert_body-requires-clause-page
insert_body-requires-clause-page g c = is_page c.empty_page.new.image _ c.empty_page.ensures

pub returns-in-Err-add-clause-sound : goal.returns-in-Err-add-clause-sound
returns-in-Err-add-clause-sound g c = λ damage told file.
    let taken = c.in-Ok.ensures.taken in
    let told_b = g.P.Ground.leads_told c.args.pages.now c.take_page.new.self c.take_page.ensures.leads told in
    c.in-Err-add.ensures.sound damage told_b
    (taken_lies g.P.Ground c.args.pages.now c.take_page.new.self c.take_page.new.self c.args.index.now c.args.index.now c.in-Ok.page.0 c.insert_body.new.image file taken told c.take_page.ensures.leads c.in-Ok.ensures.leaves)
    (taken_index g.P.Ground c.args.pages.now c.take_page.new.self c.take_page.new.self c.args.index.now c.args.index.now c.in-Ok.page.0 c.insert_body.new.image file taken told c.take_page.ensures.leads c.in-Ok.ensures.leaves)

pub returns-in-Ok-change_index-clause-placed : goal.returns-in-Ok-change_index-clause-placed
returns-in-Ok-change_index-clause-placed g c = λ told file none.
    let taken = c.in-Ok.ensures.taken in
    let told_b = g.P.Ground.leads_told c.args.pages.now c.take_page.new.self c.take_page.ensures.leads told in
    let told_c = g.P.Ground.leads_told c.take_page.new.self c.add.new.pages c.add.ensures.leads told_b in
    let files = taken_lies g.P.Ground c.args.pages.now c.take_page.new.self c.take_page.new.self c.args.index.now c.args.index.now c.in-Ok.page.0 c.insert_body.new.image file taken told c.take_page.ensures.leads c.in-Ok.ensures.leaves in
    let has = taken_index g.P.Ground c.args.pages.now c.take_page.new.self c.take_page.new.self c.args.index.now c.args.index.now c.in-Ok.page.0 c.insert_body.new.image file taken told c.take_page.ensures.leads c.in-Ok.ensures.leaves in
    let edits = c.in-Ok-add.ensures.adds told_b files has in
    let whole = still_catalog g.P.Ground c.args.pages.now c.take_page.new.self c.add.new.pages c.args.index.now c.in-Ok-add.added c.in-Ok.page.0 c.insert_body.new.image file taken told c.take_page.ensures.leads c.in-Ok.ensures.leaves edits in
    let entry = still_entry g.P.Ground c.args.pages.now c.take_page.new.self c.add.new.pages c.args.index.now c.in-Ok-add.added c.in-Ok.page.0 c.insert_body.new.image file taken told c.take_page.ensures.leads c.in-Ok.ensures.leaves edits in
    let size : length c.empty_page.new.image ≡ (g.P.Ground.geometry c.args.pages.now).page_size = omega (arith, c.empty_page.auto.image, c.requires.image) in
    let spelled = first_placed c.empty_page.new.image c.insert_body.new.image c.args.body.now c.args.index.now.file_no (g.P.Ground.geometry c.args.pages.now).page_size c.insert_body.result c.empty_page.ensures size c.requires.fits c.insert_body.ensures.place c.insert_body.ensures.placed in
    fresh_placed g.P.Ground c.args.pages.now c.take_page.new.self c.add.new.pages c.args.index.now c.in-Ok-add.added c.in-Ok.page.0 c.insert_body.new.image file taken told c.take_page.ensures.leads c.in-Ok.ensures.leaves edits
    c.change_index.new.pages c.args.body.now (c.in-Ok-change_index.ensures.sets told_c whole entry) spelled none

pub returns-in-Ok-change_index-clause-puts : goal.returns-in-Ok-change_index-clause-puts
returns-in-Ok-change_index-clause-puts g c = λ told file.
    let taken = c.in-Ok.ensures.taken in
    let told_b = g.P.Ground.leads_told c.args.pages.now c.take_page.new.self c.take_page.ensures.leads told in
    let told_c = g.P.Ground.leads_told c.take_page.new.self c.add.new.pages c.add.ensures.leads told_b in
    let files = taken_lies g.P.Ground c.args.pages.now c.take_page.new.self c.take_page.new.self c.args.index.now c.args.index.now c.in-Ok.page.0 c.insert_body.new.image file taken told c.take_page.ensures.leads c.in-Ok.ensures.leaves in
    let has = taken_index g.P.Ground c.args.pages.now c.take_page.new.self c.take_page.new.self c.args.index.now c.args.index.now c.in-Ok.page.0 c.insert_body.new.image file taken told c.take_page.ensures.leads c.in-Ok.ensures.leaves in
    let edits = c.in-Ok-add.ensures.adds told_b files has in
    let whole = still_catalog g.P.Ground c.args.pages.now c.take_page.new.self c.add.new.pages c.args.index.now c.in-Ok-add.added c.in-Ok.page.0 c.insert_body.new.image file taken told c.take_page.ensures.leads c.in-Ok.ensures.leaves edits in
    let entry = still_entry g.P.Ground c.args.pages.now c.take_page.new.self c.add.new.pages c.args.index.now c.in-Ok-add.added c.in-Ok.page.0 c.insert_body.new.image file taken told c.take_page.ensures.leads c.in-Ok.ensures.leaves edits in
    let size : length c.empty_page.new.image ≡ (g.P.Ground.geometry c.args.pages.now).page_size = omega (arith, c.empty_page.auto.image, c.requires.image) in
    let spelled = first_placed c.empty_page.new.image c.insert_body.new.image c.args.body.now c.args.index.now.file_no (g.P.Ground.geometry c.args.pages.now).page_size c.insert_body.result c.empty_page.ensures size c.requires.fits c.insert_body.ensures.place c.insert_body.ensures.placed in
    fresh_puts g.P.Ground c.args.pages.now c.take_page.new.self c.add.new.pages c.args.index.now c.in-Ok-add.added c.in-Ok.page.0 c.insert_body.new.image file taken told c.take_page.ensures.leads c.in-Ok.ensures.leaves edits
    c.change_index.new.pages c.args.body.now (c.in-Ok-change_index.ensures.sets told_c whole entry) spelled

pub returns-in-Err-change_index-clause-sound : goal.returns-in-Err-change_index-clause-sound
returns-in-Err-change_index-clause-sound g c = λ damage told file.
    let taken = c.in-Ok.ensures.taken in
    let told_b = g.P.Ground.leads_told c.args.pages.now c.take_page.new.self c.take_page.ensures.leads told in
    let told_c = g.P.Ground.leads_told c.take_page.new.self c.add.new.pages c.add.ensures.leads told_b in
    let files = taken_lies g.P.Ground c.args.pages.now c.take_page.new.self c.take_page.new.self c.args.index.now c.args.index.now c.in-Ok.page.0 c.insert_body.new.image file taken told c.take_page.ensures.leads c.in-Ok.ensures.leaves in
    let has = taken_index g.P.Ground c.args.pages.now c.take_page.new.self c.take_page.new.self c.args.index.now c.args.index.now c.in-Ok.page.0 c.insert_body.new.image file taken told c.take_page.ensures.leads c.in-Ok.ensures.leaves in
    let edits = c.in-Ok-add.ensures.adds told_b files has in
    let whole = still_catalog g.P.Ground c.args.pages.now c.take_page.new.self c.add.new.pages c.args.index.now c.in-Ok-add.added c.in-Ok.page.0 c.insert_body.new.image file taken told c.take_page.ensures.leads c.in-Ok.ensures.leaves edits in
    let entry = still_entry g.P.Ground c.args.pages.now c.take_page.new.self c.add.new.pages c.args.index.now c.in-Ok-add.added c.in-Ok.page.0 c.insert_body.new.image file taken told c.take_page.ensures.leads c.in-Ok.ensures.leaves edits in
    c.in-Err-change_index.ensures.sound damage told_c (root_placed (g.P.Ground.geometry c.add.new.pages) (g.P.Ground.image c.add.new.pages) c.in-Ok-add.added.file_no c.in-Ok-add.added.level c.in-Ok-add.added.root edits.index.whole) whole entry

pub returns-in-Err-add-clause-fault : goal.returns-in-Err-add-clause-fault
returns-in-Err-add-clause-fault g c = λ told from.
    let told_b = g.P.Ground.leads_told c.args.pages.now c.take_page.new.self c.take_page.ensures.leads told in
    adding c.in-Ok.page.0 (g.P.Ground.image c.take_page.new.self) (g.P.Ground.held c.take_page.new.self) (λ p other. (c.in-Ok.ensures.taken.images p other, c.in-Ok.ensures.taken.held p other))
    (subst (λ (y : Geometry). IsAddingFault y (g.P.Ground.held c.take_page.new.self) (g.P.Ground.image c.take_page.new.self) c.args.index.now c.in-Ok.page.0 c.in-Err-add.fault) (g.P.Ground.leads_geometry c.args.pages.now c.take_page.new.self c.take_page.ensures.leads) (c.in-Err-add.ensures.fault told_b))

pub returns-in-Ok-change_index-clause-way : goal.returns-in-Ok-change_index-clause-way
returns-in-Ok-change_index-clause-way g c = λ told from look.
    let told_b = g.P.Ground.leads_told c.args.pages.now c.take_page.new.self c.take_page.ensures.leads told in
    fresh look (g.P.Ground.image c.take_page.new.self) (λ p other. c.in-Ok.ensures.taken.images p other)
    (subst (λ (y : Geometry). HasWay y (g.P.Ground.image c.take_page.new.self) c.args.index.now c.in-Ok.page.0) (g.P.Ground.leads_geometry c.args.pages.now c.take_page.new.self c.take_page.ensures.leads) (c.in-Ok-add.ensures.way told_b))

pub change_index-requires-clause-buffer : goal.change_index-requires-clause-buffer
change_index-requires-clause-buffer g c =
    size_after g.P.Ground _ _ (g.P.Ground.leads_trans _ _ _ c.take_page.ensures.leads c.add.ensures.leads) _
    (c.insert_body.auto.image ∙ c.empty_page.auto.image ∙ c.requires.image)

pub returns-in-Err-change_index-clause-fault : goal.returns-in-Err-change_index-clause-fault
returns-in-Err-change_index-clause-fault g c = λ told from.
    let told_c = g.P.Ground.leads_told _ _ (g.P.Ground.leads_trans _ _ _ c.take_page.ensures.leads c.add.ensures.leads) told in
    unlisted_file (subst (λ (t : List ℕ). IsFileFault t c.args.index.now.file_no c.in-Err-change_index.fault)
    (c.in-Ok-add.ensures.catalog ∙ c.in-Ok.ensures.taken.images catalog_no (λ same. c.in-Ok.ensures.taken.other (sym same)))
    (c.in-Err-change_index.ensures.fault told_c))

pub returns-in-Err-change_index-clause-leads : goal.returns-in-Err-change_index-clause-leads
returns-in-Err-change_index-clause-leads g c =
    g.P.Ground.leads_trans _ _ _ c.take_page.ensures.leads (g.P.Ground.leads_trans _ _ _ c.add.ensures.leads c.change_index.ensures.leads)

pub returns-in-Ok-change_index-clause-leads : goal.returns-in-Ok-change_index-clause-leads
returns-in-Ok-change_index-clause-leads g c =
    g.P.Ground.leads_trans _ _ _ c.take_page.ensures.leads (g.P.Ground.leads_trans _ _ _ c.add.ensures.leads c.change_index.ensures.leads)

pub change_index-requires-clause-ready : goal.change_index-requires-clause-ready
change_index-requires-clause-ready g c =
    g.P.Ground.leads_ready _ _ (g.P.Ground.leads_trans _ _ _ c.take_page.ensures.leads c.add.ensures.leads) c.requires.ready

pub returns-in-Err-change_index-clause-cause : goal.returns-in-Err-change_index-clause-cause
returns-in-Err-change_index-clause-cause g c =
    cause_after g.P.Ground _ _ (g.P.Ground.leads_trans _ _ _ c.take_page.ensures.leads c.add.ensures.leads) c.change_index.new.pages c.in-Err-change_index.fault
    c.in-Err-change_index.ensures.cause

pub change_index-requires-clause-placed : goal.change_index-requires-clause-placed
change_index-requires-clause-placed g c =
    subst (λ (y : Geometry). HasPlacedRoot y c.in-Ok-add.added.root) (sym (g.P.Ground.leads_geometry _ _ c.add.ensures.leads))
    (c.in-Ok-add.ensures.placed (page_after g.P.Ground _ _ c.take_page.ensures.leads _ (c.in-Ok.ensures.taken.area, c.in-Ok.ensures.taken.other)))

pub returns-in-Err-add-clause-leads : goal.returns-in-Err-add-clause-leads
returns-in-Err-add-clause-leads g c = g.P.Ground.leads_trans _ _ _ c.take_page.ensures.leads c.add.ensures.leads

pub returns-in-Ok-change_index-clause-leaves : goal.returns-in-Ok-change_index-clause-leaves
returns-in-Ok-change_index-clause-leaves g c =
    ap (λ (f : Area → ℕ). f Segment) c.in-Ok-change_index.ensures.free ∙ c.in-Ok-add.ensures.leaves ∙ c.in-Ok.ensures.leaves

pub returns-in-Ok-change_index-clause-free : goal.returns-in-Ok-change_index-clause-free
returns-in-Ok-change_index-clause-free g c =
    free_new _ _ _ _ _ c.in-Ok.ensures.pages c.in-Ok-add.ensures.free (ap (λ (f : Area → ℕ). f Page) c.in-Ok-change_index.ensures.free) c.requires.usable.level

pub returns-in-Err-add-clause-cause : goal.returns-in-Err-add-clause-cause
returns-in-Err-add-clause-cause g c = cause_after g.P.Ground _ _ c.take_page.ensures.leads c.add.new.pages c.in-Err-add.fault c.in-Err-add.ensures.cause

pub returns-in-Ok-change_index-clause-takes : goal.returns-in-Ok-change_index-clause-takes
returns-in-Ok-change_index-clause-takes g c =
    took_takes g.P.Ground c.args.pages.now c.take_page.new.self c.add.new.pages c.change_index.new.pages c.in-Ok.page.0 c.insert_body.new.image
    c.in-Ok.ensures.taken c.in-Ok-add.ensures.takes
    c.in-Ok-change_index.ensures.held.0 c.in-Ok-change_index.ensures.held.1

pub add-requires-clause-ready : goal.add-requires-clause-ready
add-requires-clause-ready g c = g.P.Ground.leads_ready _ _ c.take_page.ensures.leads c.requires.ready

pub returns-in-Err-clause-fault : goal.returns-in-Err-clause-fault
returns-in-Err-clause-fault g c = λ told from. unlisted_file (own_file _ _ c.in-Err.fault c.in-Err.ensures.no_damage)

pub returns-in-Ok-change_index-clause-touches : goal.returns-in-Ok-change_index-clause-touches
returns-in-Ok-change_index-clause-touches g c = touched_new _ _ _ _ c.take_page.ensures.touched c.in-Ok-add.ensures.touches c.in-Ok-change_index.ensures.touches

pub change_index-requires-clause-usable : goal.change_index-requires-clause-usable
change_index-requires-clause-usable g c =
    record { same_file = c.in-Ok-add.ensures.grows.same_file; level = c.in-Ok-add.ensures.level; root = c.in-Ok-add.ensures.grows.root }

pub returns-in-Err-clause-sound : goal.returns-in-Err-clause-sound
returns-in-Err-clause-sound g c = λ damage told file. c.in-Err.ensures.no_damage damage

pub add-requires-clause-root : goal.add-requires-clause-root
add-requires-clause-root g c = c.requires.usable.root

pub add-requires-clause-level : goal.add-requires-clause-level
add-requires-clause-level g c = c.requires.usable.level

pub returns-in-Err-clause-cause : goal.returns-in-Err-clause-cause
returns-in-Err-clause-cause g c = c.in-Err.ensures.cause

pub returns-in-Err-clause-leads : goal.returns-in-Err-clause-leads
returns-in-Err-clause-leads g c = c.take_page.ensures.leads

pub add-requires-clause-free : goal.add-requires-clause-free
add-requires-clause-free g c = free_enough _ _ _ c.in-Ok.ensures.pages c.requires.free c.requires.usable.level

pub take_page-requires-clause-ready : goal.take_page-requires-clause-ready
take_page-requires-clause-ready g c = c.requires.ready

pub insert_body-requires-clause-some : goal.insert_body-requires-clause-some
insert_body-requires-clause-some g c = c.requires.some

pub take_page-requires-clause-len : goal.take_page-requires-clause-len
take_page-requires-clause-len g c = c.insert_body.auto.image ∙ c.empty_page.auto.image ∙ c.requires.image

pub returns-in-Ok-change_index-clause-fresh : goal.returns-in-Ok-change_index-clause-fresh
returns-in-Ok-change_index-clause-fresh g c = c.in-Ok.ensures.taken.was_not_held
