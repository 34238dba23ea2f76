use Rattle.std.proofs.Common.{◌≡◌, ◌≢◌, None, ◌-◌, suc, List, [], ◌∷◌, Option, subst, sym, ap, ◌∙◌, arith, ◌≤◌, ◌+◌, ℕ, length, refl}
use Rattle.std.specs.Prelude.{option_to_list}
use Rattle.std.proofs.lemmas.Result.{IfOk-weaker, IfErr-weaker, on_ok_weaker}
use Rattle.ex_base.specs.declared.geometry.Geometry.{Geometry}
use Rattle.ex_base.specs.declared.names.PageNo.{PageNo}
use Rattle.ex_base.proofs.Results.{if_ok_on_ok}
use Rattle.file_index.specs.declared.Entry.{Entry}
use Rattle.file_index.specs.Index.{IsFilesPage}
use Rattle.ex_base.specs.declared.names.Index.{Index}
use Rattle.file_index.specs.Edits.{EditsIndex, put_in}
use Rattle.file_index.proofs.Blame.{way_here, other_from}
use Rattle.file_index.proofs.Ways.{page_way, page_fault, root_way, root_fault}
use Rattle.file_index.specs.Nodes.{Stored, heads, first_key}
use Rattle.file_index.specs.Changes.{Changes}
use Rattle.file_index.proofs.Tops.{root_read, row_top, same_top, written_top, raised_top}
use Rattle.ex_base.proofs.Handed.{cause_after, cause_of}
use Rattle.file_index.proofs.LaterStates.{page_after, room_after, one_more_after, size_after}
use Rattle.std.proofs.lemmas.Grind.{common_steps}
use Rattle.file_index.specs.Index.{HasPlacedRoot}
use Rattle.ex_base.specs.Area.{catalog_no}
use Rattle.ex_base.specs.declared.names.Area.{Area}
use Rattle.ex_base.specs.declared.names.Area.TheVariants.{Page, Segment}
use Rattle.file_index.specs.IndexPage.{most_entries}
use Rattle.file_index.specs.Touches.{touches_below}
use Rattle.file_index.proofs.Growing.{grows_same, grows_one}
use Rattle.file_index.proofs.Chains.{keeps_takes, takes_on, more_on, more_none, less_on, one_more_than, le_from, touched_all, touched_row, free_top, free_stored, free_raised, free_for_row, free_for_page, free_for_root}
use Rattle.file_index.proofs.adding.add_below.Goals as goal

pub returns-in-Err-clause-cause : goal.returns-in-Err-clause-cause
returns-in-Err-clause-cause g c = c.in-Err.ensures.cause _ _

pub returns-clause-leads : goal.returns-clause-leads
returns-clause-leads g c =
    let on = g.P.Ground.leads_trans in
    on _ _ _ c.entries_at.ensures.kept.leads (on _ _ _ c.add_among.ensures.leads (on _ _ _ c.store.ensures.leads c.take_root.ensures.leads))

pub returns-in-Err-add_among-clause-sound : goal.returns-in-Err-add_among-clause-sound
returns-in-Err-add_among-clause-sound g c = λ damage told has.
    let step : suc (c.args.index.now.level - 1) ≡ c.args.index.now.level = omega (arith, c.requires.level) in
    c.in-Err-add_among.ensures.sound damage (g.P.Ground.leads_told c.args.pages.now c.entries_at.new.pages c.entries_at.ensures.kept.leads told)
    (row_top g.P.Ground c.args.pages.now c.args.index.now c.args.root (c.args.index.now.level - 1) c.requires.root step has c.entries_at.new.pages c.in-Ok-entries_at.entries.items c.entries_at.ensures.kept (c.in-Ok-entries_at.ensures.entries told))

pub returns-in-Ok-false-clause-adds : goal.returns-in-Ok-false-clause-adds
returns-in-Ok-false-clause-adds g c = λ told files has.
    let step : suc (c.args.index.now.level - 1) ≡ c.args.index.now.level = omega (arith, c.requires.level) in
    let leads = c.entries_at.ensures.kept.leads in
    let told_b = g.P.Ground.leads_told c.args.pages.now c.entries_at.new.pages leads told in
    let files_b = subst (λ (y : Geometry). IsFilesPage y c.args.key.0) (sym (g.P.Ground.leads_geometry c.args.pages.now c.entries_at.new.pages leads)) files in
    let read = c.in-Ok-entries_at.ensures.entries told in
    let row = row_top g.P.Ground c.args.pages.now c.args.index.now c.args.root (c.args.index.now.level - 1) c.requires.root step has c.entries_at.new.pages c.in-Ok-entries_at.entries.items c.entries_at.ensures.kept read in
    let becomes = c.in-Ok-false.ensures.adds told_b files_b row in
    same_top g.P.Ground c.args.pages.now c.args.index.now c.args.root (c.args.index.now.level - 1) c.requires.root step has c.entries_at.new.pages c.in-Ok-entries_at.entries.items c.entries_at.ensures.kept read c.add_among.new.pages (put_in c.args.key.0) c.add_among.new.entries.items becomes (c.in-Ok-false.ensures.same c.in-Ok-false.field-0-test)

pub returns-in-Ok-None-clause-adds : goal.returns-in-Ok-None-clause-adds
returns-in-Ok-None-clause-adds g c = λ told files has.
    let step : suc (c.args.index.now.level - 1) ≡ c.args.index.now.level = omega (arith, c.requires.level) in
    let leads = c.entries_at.ensures.kept.leads in
    let told_b = g.P.Ground.leads_told c.args.pages.now c.entries_at.new.pages leads told in
    let files_b = subst (λ (y : Geometry). IsFilesPage y c.args.key.0) (sym (g.P.Ground.leads_geometry c.args.pages.now c.entries_at.new.pages leads)) files in
    let read = c.in-Ok-entries_at.ensures.entries told in
    let row = row_top g.P.Ground c.args.pages.now c.args.index.now c.args.root (c.args.index.now.level - 1) c.requires.root step has c.entries_at.new.pages c.in-Ok-entries_at.entries.items c.entries_at.ensures.kept read in
    let told_c = g.P.Ground.leads_told c.entries_at.new.pages c.add_among.new.pages c.add_among.ensures.leads told_b in
    let becomes = c.in-Ok-true.ensures.adds told_b files_b row in
    written_top g.P.Ground c.args.pages.now c.args.index.now c.args.root (c.args.index.now.level - 1) c.requires.root step has c.entries_at.new.pages c.in-Ok-entries_at.entries.items c.entries_at.ensures.kept read c.add_among.new.pages (put_in c.args.key.0) c.add_among.new.entries.items becomes c.store.new.pages
    (subst (λ (s : Option Entry). Changes g.P.Ground c.add_among.new.pages c.store.new.pages (c.args.root.0 ∷ []) (c.args.root.0 ∷ heads (option_to_list s))) c.in-Ok-None.field-0-is c.in-Ok-None.ensures.changes)
    (subst (λ (s : Option Entry). Stored g.P.Ground c.store.new.pages c.args.root.0 c.args.index.now.level c.args.index.now.file_no c.add_among.new.entries.items s) c.in-Ok-None.field-0-is
    (subst (λ (l : List Entry). Stored g.P.Ground c.store.new.pages c.args.root.0 c.args.index.now.level c.args.index.now.file_no l c.in-Ok-None.field-0) c.deref.ensures.value (c.in-Ok-None.ensures.stored told_c)))
    (omega (arith, c.in-Ok-entries_at.ensures.few, c.in-Ok-true.ensures.more))

pub returns-clause-adds : goal.returns-clause-adds
returns-clause-adds g c = IfOk-weaker c.take_root.result _ _ (λ added made told files has.
    let step : suc (c.args.index.now.level - 1) ≡ c.args.index.now.level = omega (arith, c.requires.level) in
    let leads = c.entries_at.ensures.kept.leads in
    let told_b = g.P.Ground.leads_told c.args.pages.now c.entries_at.new.pages leads told in
    let files_b = subst (λ (y : Geometry). IsFilesPage y c.args.key.0) (sym (g.P.Ground.leads_geometry c.args.pages.now c.entries_at.new.pages leads)) files in
    let read = c.in-Ok-entries_at.ensures.entries told in
    let row = row_top g.P.Ground c.args.pages.now c.args.index.now c.args.root (c.args.index.now.level - 1) c.requires.root step has c.entries_at.new.pages c.in-Ok-entries_at.entries.items c.entries_at.ensures.kept read in
    let told_c = g.P.Ground.leads_told c.entries_at.new.pages c.add_among.new.pages c.add_among.ensures.leads told_b in
    let told_d = g.P.Ground.leads_told c.add_among.new.pages c.store.new.pages c.store.ensures.leads told_c in
    let becomes = c.in-Ok-true.ensures.adds told_b files_b row in
    let some = (subst (λ (s : Option Entry). Stored g.P.Ground c.store.new.pages c.args.root.0 c.args.index.now.level c.args.index.now.file_no c.add_among.new.entries.items s) c.in-Ok-Some.field-0-is
    (subst (λ (l : List Entry). Stored g.P.Ground c.store.new.pages c.args.root.0 c.args.index.now.level c.args.index.now.file_no l c.in-Ok-Some.field-0) c.deref.ensures.value (c.in-Ok-Some.ensures.stored told_c))) in
    subst (λ (i : Index). EditsIndex g.P.Ground c.args.pages.now c.take_root.new.pages (put_in c.args.key.0) c.args.index.now i) (sym made.is)
    (raised_top g.P.Ground c.args.pages.now c.args.index.now c.args.root (c.args.index.now.level - 1) c.requires.root step has c.entries_at.new.pages c.in-Ok-entries_at.entries.items c.entries_at.ensures.kept read c.add_among.new.pages (put_in c.args.key.0) c.add_among.new.entries.items becomes c.store.new.pages c.take_root.new.pages
    c.entry_over.result c.in-Ok-Some.second made.page
    (subst (λ (s : Option Entry). Changes g.P.Ground c.add_among.new.pages c.store.new.pages (c.args.root.0 ∷ []) (c.args.root.0 ∷ heads (option_to_list s))) c.in-Ok-Some.field-0-is c.in-Ok-Some.ensures.changes)
    some (ap (λ (p : PageNo). p.0) c.entry_over.ensures.page) (c.entry_over.ensures.key ∙ ap first_key c.deref-2.ensures.value)
    made.changes (made.written told_d))) c.take_root.ensures.made

pub returns-in-Ok-false-clause-way : goal.returns-in-Ok-false-clause-way
returns-in-Ok-false-clause-way g c =
    let above : c.args.index.now.level ≢ 0 = λ none. omega (arith, c.requires.level) in
    λ told. root_way (g.P.Ground.geometry c.args.pages.now) (g.P.Ground.image c.args.pages.now) c.args.index.now.file_no c.args.key.0 c.args.index.now.level c.args.index.now.root c.args.root c.requires.root
    (page_way g.P.Ground c.args.pages.now c.entries_at.new.pages c.args.index.now.file_no c.args.index.now.level None c.args.root.0 c.args.key.0 c.in-Ok-entries_at.entries.items above c.entries_at.ensures.kept c.in-Ok-entries_at.ensures.entries
    (λ told_a. record { area = c.in-Ok-entries_at.ensures.area; named = c.in-Ok-entries_at.ensures.named told_a }) c.in-Ok-false.ensures.way told)

pub returns-in-Ok-None-clause-way : goal.returns-in-Ok-None-clause-way
returns-in-Ok-None-clause-way g c =
    let above : c.args.index.now.level ≢ 0 = λ none. omega (arith, c.requires.level) in
    λ told. root_way (g.P.Ground.geometry c.args.pages.now) (g.P.Ground.image c.args.pages.now) c.args.index.now.file_no c.args.key.0 c.args.index.now.level c.args.index.now.root c.args.root c.requires.root
    (page_way g.P.Ground c.args.pages.now c.entries_at.new.pages c.args.index.now.file_no c.args.index.now.level None c.args.root.0 c.args.key.0 c.in-Ok-entries_at.entries.items above c.entries_at.ensures.kept c.in-Ok-entries_at.ensures.entries
    (λ told_a. record { area = c.in-Ok-entries_at.ensures.area; named = c.in-Ok-entries_at.ensures.named told_a }) c.in-Ok-true.ensures.way told)

pub returns-clause-way : goal.returns-clause-way
returns-clause-way g c =
    let above : c.args.index.now.level ≢ 0 = λ none. omega (arith, c.requires.level) in
    if_ok_on_ok c.take_root.result _ _ (λ made is told. root_way (g.P.Ground.geometry c.args.pages.now) (g.P.Ground.image c.args.pages.now) c.args.index.now.file_no c.args.key.0 c.args.index.now.level c.args.index.now.root c.args.root c.requires.root
    (page_way g.P.Ground c.args.pages.now c.entries_at.new.pages c.args.index.now.file_no c.args.index.now.level None c.args.root.0 c.args.key.0 c.in-Ok-entries_at.entries.items above c.entries_at.ensures.kept c.in-Ok-entries_at.ensures.entries
    (λ told_a. record { area = c.in-Ok-entries_at.ensures.area; named = c.in-Ok-entries_at.ensures.named told_a }) c.in-Ok-true.ensures.way told)) c.take_root.ensures.made

pub returns-in-Err-entries_at-clause-fault : goal.returns-in-Err-entries_at-clause-fault
returns-in-Err-entries_at-clause-fault g c =
    let above : c.args.index.now.level ≢ 0 = λ none. omega (arith, c.requires.level) in
    λ told. root_fault (g.P.Ground.geometry c.args.pages.now) (g.P.Ground.held c.args.pages.now) (g.P.Ground.image c.args.pages.now) c.args.index.now.file_no c.args.key.0 c.args.index.now.level c.args.index.now.root c.args.root c.requires.root c.in-Err-entries_at.fault
    (way_here (g.P.Ground.geometry c.args.pages.now) (g.P.Ground.held c.args.pages.now) (g.P.Ground.image c.args.pages.now) c.args.index.now.file_no c.args.key.0 c.args.index.now.level None c.args.root.0 c.in-Err-entries_at.fault above (c.in-Err-entries_at.ensures.fault told))

pub returns-in-Err-add_among-clause-fault : goal.returns-in-Err-add_among-clause-fault
returns-in-Err-add_among-clause-fault g c =
    let above : c.args.index.now.level ≢ 0 = λ none. omega (arith, c.requires.level) in
    λ told. root_fault (g.P.Ground.geometry c.args.pages.now) (g.P.Ground.held c.args.pages.now) (g.P.Ground.image c.args.pages.now) c.args.index.now.file_no c.args.key.0 c.args.index.now.level c.args.index.now.root c.args.root c.requires.root c.in-Err-add_among.fault
    (page_fault g.P.Ground c.args.pages.now c.entries_at.new.pages c.args.index.now.file_no c.args.index.now.level None c.args.root.0 c.args.key.0 c.in-Ok-entries_at.entries.items above c.entries_at.ensures.kept c.in-Ok-entries_at.ensures.entries
    (λ told_a. record { area = c.in-Ok-entries_at.ensures.area; named = c.in-Ok-entries_at.ensures.named told_a }) c.in-Err-add_among.fault c.in-Err-add_among.ensures.fault told)

pub store-requires-clause-held : goal.store-requires-clause-held
store-requires-clause-held g c = c.in-Ok-true.ensures.takes.held c.args.root.0 (rw c.entries_at.ensures.kept.held c.in-Ok-entries_at.ensures.held)

pub returns-in-Err-entries_at-clause-sound : goal.returns-in-Err-entries_at-clause-sound
returns-in-Err-entries_at-clause-sound g c = λ damage told has.
    let step : suc (c.args.index.now.level - 1) ≡ c.args.index.now.level = omega (arith, c.requires.level) in
    root_read g.P.Ground c.args.pages.now c.args.index.now c.args.root (c.args.index.now.level - 1) c.requires.root step has (c.in-Err-entries_at.ensures.sound damage told)

pub add_among-requires-clause-ready : goal.add_among-requires-clause-ready
add_among-requires-clause-ready g c = g.P.Ground.leads_ready _ _ c.entries_at.ensures.kept.leads c.requires.ready

pub add_among-requires-clause-many : goal.add_among-requires-clause-many
add_among-requires-clause-many g c = room_after g.P.Ground _ _ c.entries_at.ensures.kept.leads _ c.in-Ok-entries_at.ensures.many

pub store-requires-clause-ready : goal.store-requires-clause-ready
store-requires-clause-ready g c = g.P.Ground.leads_ready _ _ (g.P.Ground.leads_trans _ _ _ c.entries_at.ensures.kept.leads c.add_among.ensures.leads) c.requires.ready

pub store-requires-clause-page : goal.store-requires-clause-page
store-requires-clause-page g c = page_after g.P.Ground _ _ (g.P.Ground.leads_trans _ _ _ c.entries_at.ensures.kept.leads c.add_among.ensures.leads) _ c.in-Ok-entries_at.ensures.area

pub take_root-requires-clause-ready : goal.take_root-requires-clause-ready
take_root-requires-clause-ready g c = g.P.Ground.leads_ready _ _ (g.P.Ground.leads_trans _ _ _ c.entries_at.ensures.kept.leads (g.P.Ground.leads_trans _ _ _ c.add_among.ensures.leads c.store.ensures.leads)) c.requires.ready

pub returns-in-Ok-false-clause-leads : goal.returns-in-Ok-false-clause-leads
returns-in-Ok-false-clause-leads g c = g.P.Ground.leads_trans _ _ _ c.entries_at.ensures.kept.leads c.add_among.ensures.leads

pub returns-in-Err-add_among-clause-leads : goal.returns-in-Err-add_among-clause-leads
returns-in-Err-add_among-clause-leads g c = g.P.Ground.leads_trans _ _ _ c.entries_at.ensures.kept.leads c.add_among.ensures.leads

pub returns-in-Err-add_among-clause-cause : goal.returns-in-Err-add_among-clause-cause
returns-in-Err-add_among-clause-cause g c = cause_after g.P.Ground _ _ c.entries_at.ensures.kept.leads c.add_among.new.pages c.in-Err-add_among.fault c.in-Err-add_among.ensures.cause

pub returns-in-Ok-None-clause-leads : goal.returns-in-Ok-None-clause-leads
returns-in-Ok-None-clause-leads g c = g.P.Ground.leads_trans _ _ _ c.entries_at.ensures.kept.leads (g.P.Ground.leads_trans _ _ _ c.add_among.ensures.leads c.store.ensures.leads)

pub returns-in-Err-store-clause-leads : goal.returns-in-Err-store-clause-leads
returns-in-Err-store-clause-leads g c = g.P.Ground.leads_trans _ _ _ c.entries_at.ensures.kept.leads (g.P.Ground.leads_trans _ _ _ c.add_among.ensures.leads c.store.ensures.leads)

pub returns-in-Err-store-clause-cause : goal.returns-in-Err-store-clause-cause
returns-in-Err-store-clause-cause g c = cause_after g.P.Ground _ _ (g.P.Ground.leads_trans _ _ _ c.entries_at.ensures.kept.leads c.add_among.ensures.leads) c.store.new.pages c.in-Err-store.fault c.in-Err-store.ensures.cause

pub returns-clause-cause : goal.returns-clause-cause
returns-clause-cause g c = cause_of g.P.Ground _ _ (g.P.Ground.leads_trans _ _ _ c.entries_at.ensures.kept.leads (g.P.Ground.leads_trans _ _ _ c.add_among.ensures.leads c.store.ensures.leads)) c.take_root.new.pages c.take_root.result c.take_root.ensures.cause

pub store-requires-clause-buffer : goal.store-requires-clause-buffer
store-requires-clause-buffer g c = grind (arith, common_steps, g.P.Ground.leads_geometry)

pub take_root-requires-clause-buffer : goal.take_root-requires-clause-buffer
take_root-requires-clause-buffer g c = grind (arith, common_steps, g.P.Ground.leads_geometry)

pub returns-clause-placed : goal.returns-clause-placed
returns-clause-placed g c = IfOk-weaker c.take_root.result _ _ (λ made placed files. subst (λ (y : Geometry). HasPlacedRoot y made.root) (g.P.Ground.leads_geometry _ _ (g.P.Ground.leads_trans _ _ _ c.entries_at.ensures.kept.leads (g.P.Ground.leads_trans _ _ _ c.add_among.ensures.leads c.store.ensures.leads))) placed) c.take_root.ensures.placed

pub returns-in-Err-clause-adds : goal.returns-in-Err-clause-adds
returns-in-Err-clause-adds g c = tt

pub returns-in-Err-clause-grows : goal.returns-in-Err-clause-grows
returns-in-Err-clause-grows g c = tt

pub returns-in-Err-clause-placed : goal.returns-in-Err-clause-placed
returns-in-Err-clause-placed g c = tt

pub returns-in-Err-clause-free : goal.returns-in-Err-clause-free
returns-in-Err-clause-free g c = tt

pub returns-in-Err-clause-takes : goal.returns-in-Err-clause-takes
returns-in-Err-clause-takes g c = tt

pub returns-in-Err-clause-way : goal.returns-in-Err-clause-way
returns-in-Err-clause-way g c = tt

pub returns-in-Err-clause-catalog : goal.returns-in-Err-clause-catalog
returns-in-Err-clause-catalog g c = tt

pub returns-in-Err-clause-leaves : goal.returns-in-Err-clause-leaves
returns-in-Err-clause-leaves g c = tt

pub returns-in-Err-clause-touches : goal.returns-in-Err-clause-touches
returns-in-Err-clause-touches g c = tt

pub returns-in-Err-entries_at-clause-adds : goal.returns-in-Err-entries_at-clause-adds
returns-in-Err-entries_at-clause-adds g c = tt

pub returns-in-Err-entries_at-clause-grows : goal.returns-in-Err-entries_at-clause-grows
returns-in-Err-entries_at-clause-grows g c = tt

pub returns-in-Err-entries_at-clause-placed : goal.returns-in-Err-entries_at-clause-placed
returns-in-Err-entries_at-clause-placed g c = tt

pub returns-in-Err-entries_at-clause-free : goal.returns-in-Err-entries_at-clause-free
returns-in-Err-entries_at-clause-free g c = tt

pub returns-in-Err-entries_at-clause-takes : goal.returns-in-Err-entries_at-clause-takes
returns-in-Err-entries_at-clause-takes g c = tt

pub returns-in-Err-entries_at-clause-way : goal.returns-in-Err-entries_at-clause-way
returns-in-Err-entries_at-clause-way g c = tt

pub returns-in-Err-entries_at-clause-catalog : goal.returns-in-Err-entries_at-clause-catalog
returns-in-Err-entries_at-clause-catalog g c = tt

pub returns-in-Err-entries_at-clause-leaves : goal.returns-in-Err-entries_at-clause-leaves
returns-in-Err-entries_at-clause-leaves g c = tt

pub returns-in-Err-entries_at-clause-touches : goal.returns-in-Err-entries_at-clause-touches
returns-in-Err-entries_at-clause-touches g c = tt

pub returns-in-Err-add_among-clause-adds : goal.returns-in-Err-add_among-clause-adds
returns-in-Err-add_among-clause-adds g c = tt

pub returns-in-Err-add_among-clause-grows : goal.returns-in-Err-add_among-clause-grows
returns-in-Err-add_among-clause-grows g c = tt

pub returns-in-Err-add_among-clause-placed : goal.returns-in-Err-add_among-clause-placed
returns-in-Err-add_among-clause-placed g c = tt

pub returns-in-Err-add_among-clause-free : goal.returns-in-Err-add_among-clause-free
returns-in-Err-add_among-clause-free g c = tt

pub returns-in-Err-add_among-clause-takes : goal.returns-in-Err-add_among-clause-takes
returns-in-Err-add_among-clause-takes g c = tt

pub returns-in-Err-add_among-clause-way : goal.returns-in-Err-add_among-clause-way
returns-in-Err-add_among-clause-way g c = tt

pub returns-in-Err-add_among-clause-catalog : goal.returns-in-Err-add_among-clause-catalog
returns-in-Err-add_among-clause-catalog g c = tt

pub returns-in-Err-add_among-clause-leaves : goal.returns-in-Err-add_among-clause-leaves
returns-in-Err-add_among-clause-leaves g c = tt

pub returns-in-Err-add_among-clause-touches : goal.returns-in-Err-add_among-clause-touches
returns-in-Err-add_among-clause-touches g c = tt

pub returns-in-Err-store-clause-adds : goal.returns-in-Err-store-clause-adds
returns-in-Err-store-clause-adds g c = tt

pub returns-in-Err-store-clause-grows : goal.returns-in-Err-store-clause-grows
returns-in-Err-store-clause-grows g c = tt

pub returns-in-Err-store-clause-placed : goal.returns-in-Err-store-clause-placed
returns-in-Err-store-clause-placed g c = tt

pub returns-in-Err-store-clause-free : goal.returns-in-Err-store-clause-free
returns-in-Err-store-clause-free g c = tt

pub returns-in-Err-store-clause-takes : goal.returns-in-Err-store-clause-takes
returns-in-Err-store-clause-takes g c = tt

pub returns-in-Err-store-clause-way : goal.returns-in-Err-store-clause-way
returns-in-Err-store-clause-way g c = tt

pub returns-in-Err-store-clause-catalog : goal.returns-in-Err-store-clause-catalog
returns-in-Err-store-clause-catalog g c = tt

pub returns-in-Err-store-clause-leaves : goal.returns-in-Err-store-clause-leaves
returns-in-Err-store-clause-leaves g c = tt

pub returns-in-Err-store-clause-touches : goal.returns-in-Err-store-clause-touches
returns-in-Err-store-clause-touches g c = tt

pub returns-in-Ok-false-clause-sound : goal.returns-in-Ok-false-clause-sound
returns-in-Ok-false-clause-sound g c = tt

pub returns-in-Ok-false-clause-fault : goal.returns-in-Ok-false-clause-fault
returns-in-Ok-false-clause-fault g c = tt

pub returns-in-Ok-false-clause-cause : goal.returns-in-Ok-false-clause-cause
returns-in-Ok-false-clause-cause g c = tt

pub returns-in-Ok-None-clause-sound : goal.returns-in-Ok-None-clause-sound
returns-in-Ok-None-clause-sound g c = tt

pub returns-in-Ok-None-clause-fault : goal.returns-in-Ok-None-clause-fault
returns-in-Ok-None-clause-fault g c = tt

pub returns-in-Ok-None-clause-cause : goal.returns-in-Ok-None-clause-cause
returns-in-Ok-None-clause-cause g c = tt

pub page_buffer-requires : goal.page_buffer-requires
page_buffer-requires g c = c.requires.ready

pub entries_at-requires : goal.entries_at-requires
entries_at-requires g c = c.requires.ready

pub add_among-requires-clause-level : goal.add_among-requires-clause-level
add_among-requires-clause-level g c = c.requires.level.0

pub add_among-requires-clause-some : goal.add_among-requires-clause-some
add_among-requires-clause-some g c = less_on 1 2 _ (more_none 1 1) c.in-Ok-entries_at.ensures.few

pub add_among-requires-clause-free : goal.add_among-requires-clause-free
add_among-requires-clause-free g c = free_for_row _ _ c.args.index.now.level (ap (λ (f : Area → ℕ). f Page) c.entries_at.ensures.kept.free) c.requires.free

pub store-requires-clause-level : goal.store-requires-clause-level
store-requires-clause-level g c = c.requires.level.0

pub store-requires-clause-some : goal.store-requires-clause-some
store-requires-clause-some g c =
    subst (λ (l : List Entry). 1 ≤ length l) (sym c.deref.ensures.value)
    (less_on 1 2 _ (more_none 1 1) (less_on _ _ _ c.in-Ok-entries_at.ensures.few c.in-Ok-true.ensures.more.0))

pub store-requires-clause-room : goal.store-requires-clause-room
store-requires-clause-room g c =
    subst (λ (l : List Entry). length l ≤ most_entries (g.P.Ground.geometry c.add_among.new.pages).page_size + 1) (sym c.deref.ensures.value)
    (one_more_after g.P.Ground _ _ (g.P.Ground.leads_trans _ _ _ c.entries_at.ensures.kept.leads c.add_among.ensures.leads) _
    (one_more_than _ _ _ c.in-Ok-true.ensures.more.1 c.in-Ok-entries_at.ensures.many))

pub store-requires-clause-free : goal.store-requires-clause-free
store-requires-clause-free g c =
    free_for_page _ _ _ c.args.index.now.level (ap (λ (f : Area → ℕ). f Page) c.entries_at.ensures.kept.free) c.requires.free c.in-Ok-true.ensures.free

pub take_root-requires-clause-free : goal.take_root-requires-clause-free
take_root-requires-clause-free g c =
    free_for_root _ _ _ _ c.args.index.now.level (ap (λ (f : Area → ℕ). f Page) c.entries_at.ensures.kept.free) c.requires.free c.in-Ok-true.ensures.free
    c.in-Ok-Some.ensures.free

pub entry_over-requires : goal.entry_over-requires
entry_over-requires g c =
    subst (λ (l : List Entry). 1 ≤ length l) (sym c.deref-2.ensures.value)
    (less_on 1 2 _ (more_none 1 1) (less_on _ _ _ c.in-Ok-entries_at.ensures.few c.in-Ok-true.ensures.more.0))

pub returns-in-Err-clause-leads : goal.returns-in-Err-clause-leads
returns-in-Err-clause-leads g c = g.P.Ground.leads_refl _

pub returns-in-Err-clause-fault : goal.returns-in-Err-clause-fault
returns-in-Err-clause-fault g c =
    λ told. other_from (g.P.Ground.geometry c.args.pages.now) (g.P.Ground.held c.args.pages.now) (g.P.Ground.image c.args.pages.now) c.args.index.now.file_no
    c.args.key.0 c.args.index.now.level c.args.index.now.root c.in-Err.fault c.in-Err.ensures.no_damage

pub returns-in-Err-clause-sound : goal.returns-in-Err-clause-sound
returns-in-Err-clause-sound g c = λ damage told has. c.in-Err.ensures.no_damage damage

pub returns-in-Err-entries_at-clause-cause : goal.returns-in-Err-entries_at-clause-cause
returns-in-Err-entries_at-clause-cause g c = c.in-Err-entries_at.ensures.cause

pub returns-in-Err-entries_at-clause-leads : goal.returns-in-Err-entries_at-clause-leads
returns-in-Err-entries_at-clause-leads g c = c.entries_at.ensures.kept.leads

pub returns-in-Err-store-clause-fault : goal.returns-in-Err-store-clause-fault
returns-in-Err-store-clause-fault g c =
    λ told. other_from (g.P.Ground.geometry c.args.pages.now) (g.P.Ground.held c.args.pages.now) (g.P.Ground.image c.args.pages.now) c.args.index.now.file_no
    c.args.key.0 c.args.index.now.level c.args.index.now.root c.in-Err-store.fault c.in-Err-store.ensures.no_damage

pub returns-in-Err-store-clause-sound : goal.returns-in-Err-store-clause-sound
returns-in-Err-store-clause-sound g c = λ damage told has. c.in-Err-store.ensures.no_damage damage

pub returns-in-Ok-false-clause-grows : goal.returns-in-Ok-false-clause-grows
returns-in-Ok-false-clause-grows g c = grows_same c.args.index.now c.args.root c.requires.root

pub returns-in-Ok-None-clause-grows : goal.returns-in-Ok-None-clause-grows
returns-in-Ok-None-clause-grows g c = grows_same c.args.index.now c.args.root c.requires.root

pub returns-in-Ok-false-clause-placed : goal.returns-in-Ok-false-clause-placed
returns-in-Ok-false-clause-placed g c =
    λ files. subst (HasPlacedRoot (g.P.Ground.geometry c.args.pages.now)) (sym c.requires.root) c.in-Ok-entries_at.ensures.area

pub returns-in-Ok-None-clause-placed : goal.returns-in-Ok-None-clause-placed
returns-in-Ok-None-clause-placed g c =
    λ files. subst (HasPlacedRoot (g.P.Ground.geometry c.args.pages.now)) (sym c.requires.root) c.in-Ok-entries_at.ensures.area

pub returns-in-Ok-false-clause-leaves : goal.returns-in-Ok-false-clause-leaves
returns-in-Ok-false-clause-leaves g c = c.in-Ok-false.ensures.leaves ∙ ap (λ (f : Area → ℕ). f Segment) c.entries_at.ensures.kept.free

pub returns-in-Ok-None-clause-leaves : goal.returns-in-Ok-None-clause-leaves
returns-in-Ok-None-clause-leaves g c =
    c.in-Ok-None.ensures.changes.leaves ∙ c.in-Ok-true.ensures.leaves ∙ ap (λ (f : Area → ℕ). f Segment) c.entries_at.ensures.kept.free

pub returns-in-Ok-false-clause-free : goal.returns-in-Ok-false-clause-free
returns-in-Ok-false-clause-free g c =
    free_top _ _ _ c.args.index.now.level (ap (λ (f : Area → ℕ). f Page) c.entries_at.ensures.kept.free) c.in-Ok-false.ensures.free

pub returns-in-Ok-None-clause-free : goal.returns-in-Ok-None-clause-free
returns-in-Ok-None-clause-free g c =
    free_stored _ _ _ _ c.args.index.now.level (ap (λ (f : Area → ℕ). f Page) c.entries_at.ensures.kept.free) c.in-Ok-true.ensures.free
    c.in-Ok-None.ensures.free

pub returns-in-Ok-false-clause-touches : goal.returns-in-Ok-false-clause-touches
returns-in-Ok-false-clause-touches g c =
    touched_row _ _ _ c.args.index.now.level c.requires.level.1 c.entries_at.ensures.kept.touched c.in-Ok-false.ensures.touches

pub returns-in-Ok-None-clause-touches : goal.returns-in-Ok-None-clause-touches
returns-in-Ok-None-clause-touches g c =
    touched_all _ _ _ 2 c.args.index.now.level c.requires.level.1 (more_none 2 1) c.entries_at.ensures.kept.touched
    (more_on _ _ _ (touches_below c.args.index.now.level) 2 c.in-Ok-true.ensures.touches c.in-Ok-None.ensures.touches)

pub returns-in-Ok-false-clause-takes : goal.returns-in-Ok-false-clause-takes
returns-in-Ok-false-clause-takes g c = takes_on g.P.Ground _ _ _ (keeps_takes g.P.Ground _ _ c.entries_at.ensures.kept) c.in-Ok-false.ensures.takes

pub returns-in-Ok-None-clause-takes : goal.returns-in-Ok-None-clause-takes
returns-in-Ok-None-clause-takes g c =
    takes_on g.P.Ground _ _ _ (keeps_takes g.P.Ground _ _ c.entries_at.ensures.kept)
    (takes_on g.P.Ground _ _ _ c.in-Ok-true.ensures.takes c.in-Ok-None.ensures.takes)

pub returns-in-Ok-false-clause-catalog : goal.returns-in-Ok-false-clause-catalog
returns-in-Ok-false-clause-catalog g c = c.in-Ok-false.ensures.catalog ∙ ap (λ (f : ℕ → List ℕ). f catalog_no) c.entries_at.ensures.kept.images

pub returns-in-Ok-None-clause-catalog : goal.returns-in-Ok-None-clause-catalog
returns-in-Ok-None-clause-catalog g c =
    c.in-Ok-None.ensures.catalog ∙ c.in-Ok-true.ensures.catalog ∙ ap (λ (f : ℕ → List ℕ). f catalog_no) c.entries_at.ensures.kept.images

pub returns-clause-takes : goal.returns-clause-takes
returns-clause-takes g c =
    on_ok_weaker c.take_root.result (λ takes. takes_on g.P.Ground _ _ _ (keeps_takes g.P.Ground _ _ c.entries_at.ensures.kept)
    (takes_on g.P.Ground _ _ _ c.in-Ok-true.ensures.takes (takes_on g.P.Ground _ _ _ c.in-Ok-Some.ensures.takes takes))) c.take_root.ensures.takes

pub returns-clause-touches : goal.returns-clause-touches
returns-clause-touches g c =
    on_ok_weaker c.take_root.result (λ touches. touched_all _ _ _ 3 c.args.index.now.level c.requires.level.1 (le_from refl) c.entries_at.ensures.kept.touched
    (more_on _ _ _ (touches_below c.args.index.now.level) 3 c.in-Ok-true.ensures.touches (more_on _ _ _ 2 1 c.in-Ok-Some.ensures.touches touches)))
    c.take_root.ensures.touches

pub returns-clause-leaves : goal.returns-clause-leaves
returns-clause-leaves g c =
    if_ok_on_ok c.take_root.result _ _ (λ made over. over.changes.leaves ∙ c.in-Ok-Some.ensures.changes.leaves ∙ c.in-Ok-true.ensures.leaves ∙ ap
    (λ (f : Area → ℕ). f Segment) c.entries_at.ensures.kept.free) c.take_root.ensures.made

pub returns-clause-free : goal.returns-clause-free
returns-clause-free g c =
    on_ok_weaker c.take_root.result (λ taken. free_raised _ _ _ _ _ c.args.index.now.level (ap (λ (f : Area → ℕ). f Page) c.entries_at.ensures.kept.free)
    c.in-Ok-true.ensures.free c.in-Ok-Some.ensures.free taken) c.take_root.ensures.free

pub returns-clause-catalog : goal.returns-clause-catalog
returns-clause-catalog g c =
    on_ok_weaker c.take_root.result (λ catalog. catalog ∙ c.in-Ok-Some.ensures.catalog ∙ c.in-Ok-true.ensures.catalog ∙ ap (λ (f : ℕ → List ℕ). f catalog_no)
    c.entries_at.ensures.kept.images) c.take_root.ensures.catalog

pub returns-clause-fault : goal.returns-clause-fault
returns-clause-fault g c =
    IfErr-weaker c.take_root.result _ _ (λ fault never told. other_from (g.P.Ground.geometry c.args.pages.now) (g.P.Ground.held c.args.pages.now)
    (g.P.Ground.image c.args.pages.now) c.args.index.now.file_no c.args.key.0 c.args.index.now.level c.args.index.now.root fault never)
    c.take_root.ensures.no_damage

pub returns-clause-sound : goal.returns-clause-sound
returns-clause-sound g c = IfErr-weaker c.take_root.result _ _ (λ fault never damage told has. never damage) c.take_root.ensures.no_damage

pub returns-clause-grows : goal.returns-clause-grows
returns-clause-grows g c = IfOk-weaker c.take_root.result _ _ (λ made is. grows_one c.args.index.now made is.0 is.1 is.2) c.take_root.ensures.level

pub add_among-requires-clause-buffer : goal.add_among-requires-clause-buffer
add_among-requires-clause-buffer g c = size_after g.P.Ground _ _ c.entries_at.ensures.kept.leads _ (ap length c.deref_mut.ensures.value ∙ c.in-Ok.ensures.len)

pub take_root-requires-clause-level : goal.take_root-requires-clause-level
take_root-requires-clause-level g c = less_on 1 _ _ c.requires.level.0 (more_none _ 1)
