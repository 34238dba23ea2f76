use Rattle.std.proofs.Common.{◌≡◌, ◌≢◌, ◌<◌, ◌-◌, ℕ, suc, List, Some, length, subst, sym, ap, ◌∙◌, refl, arith, ◌≤◌, ◌+◌}
use Rattle.file_index.specs.declared.Entry.{Entry}
use Rattle.ex_base.specs.declared.geometry.Geometry.{Geometry}
use Rattle.ex_base.specs.Sizes.{least_page}
use Rattle.ex_base.proofs.Results.{if_ok_on_ok, on_ok_from}
use Rattle.file_index.specs.Index.{IsFilesPage}
use Rattle.file_index.specs.Edits.{put_in}
use Rattle.file_index.specs.Nodes.{IsPlace, Stored}
use Rattle.file_index.specs.Damage.{place_in, IsWay, IsWayFault}
use Rattle.file_index.proofs.Blame.{way_here, other_under}
use Rattle.file_index.proofs.Ways.{child_at, page_way, page_fault}
use Rattle.file_index.proofs.Lists.{put_local}
use Rattle.file_index.proofs.Descending.{never_read, row_below, stays_below, written_below, first_key_is}
use Rattle.file_index.proofs.Leaves.{leaf_added, put_same, put_more, way_ends}
use Rattle.ex_base.proofs.Handed.{cause_after}
use Rattle.file_index.proofs.LaterStates.{page_after, one_more_after, size_after}
use Rattle.file_index.proofs.Replacing.{replaced_more, replaced_same, entry_of, no_second, key_differs}
use Rattle.ex_base.specs.declared.names.Area.TheVariants.{Page, Segment}
use Rattle.std.proofs.lemmas.Result.{IfOk-weaker, IfErr-weaker}
use Rattle.ex_base.specs.Area.{catalog_no}
use Rattle.ex_base.specs.declared.names.Area.{Area}
use Rattle.file_index.specs.IndexPage.{most_entries}
use Rattle.file_index.proofs.Chains.{keeps_takes, same_takes, takes_on, more_none, one_more_than, le_from, two_levels, level_below, touched_below, touched_here, free_below, one_free, one_and_more, free_here}
use Rattle.file_index.proofs.Rooms.{some_entries}
use Rattle.file_index.proofs.adding.+add_among.Goals as goal
use Rattle.file_index.proofs.adding.+add_among.Goals.{then-first-child, else-first-child}

pub returns-then-level-eq1-clause-adds : goal.returns-then-level-eq1-clause-adds
returns-then-level-eq1-clause-adds g t c =
    if_ok_on_ok c.add_leaf.result _ _ (λ changed puts told files row.
    leaf_added g.P.Ground c.args.pages.now c.args.file_no (c.args.level - 1) c.args.key c.place_of-at.result c.index-child.result.now c.args.entries.now.items c.add_leaf.new.entries.items changed
    (omega (arith, c.if-level-eq1.true)) (subst (λ (l : List Entry). IsPlace c.args.key l c.place_of-at.result) c.deref.ensures.value c.place_of-at.ensures.place) c.index-child.ensures puts files row) c.add_leaf.ensures.added

pub returns-then-level-eq1-clause-cause : goal.returns-then-level-eq1-clause-cause
returns-then-level-eq1-clause-cause g t c = c.add_leaf.ensures.cause _ _

pub returns-in-Err-clause-sound : goal.returns-in-Err-clause-sound
returns-in-Err-clause-sound g t c = λ damage told row.
    let step : suc (c.args.level - 1 - 1) ≡ c.args.level - 1 = omega (arith, c.requires.level, c.if-level-eq1.false) in
    never_read g.P.Ground c.args.pages.now c.args.file_no (c.args.level - 1) (c.args.level - 1 - 1) c.args.key c.args.entries.now.items c.place_of-at.result c.index-child.result.now step (subst (λ (l : List Entry). IsPlace c.args.key l c.place_of-at.result) c.deref.ensures.value c.place_of-at.ensures.place) c.index-child.ensures
    (c.in-Err.ensures.sound damage told) row

pub returns-in-Err-add_among-clause-sound : goal.returns-in-Err-add_among-clause-sound
returns-in-Err-add_among-clause-sound g t c = λ damage told row.
    let step : suc (c.args.level - 1 - 1) ≡ c.args.level - 1 = omega (arith, c.requires.level, c.if-level-eq1.false) in
    c.in-Err-add_among.ensures.sound damage (g.P.Ground.leads_told c.args.pages.now c.entries_at.new.pages c.entries_at.ensures.kept.leads told)
    (row_below g.P.Ground c.args.pages.now c.args.file_no (c.args.level - 1) (c.args.level - 1 - 1) c.args.key c.args.entries.now.items c.place_of-at.result c.index-child.result.now step (subst (λ (l : List Entry). IsPlace c.args.key l c.place_of-at.result) c.deref.ensures.value c.place_of-at.ensures.place) c.index-child.ensures
    c.entries_at.new.pages c.in-Ok.below.items c.entries_at.ensures.kept (c.in-Ok.ensures.entries told) row)

pub returns-in-Ok-false-clause-adds : goal.returns-in-Ok-false-clause-adds
returns-in-Ok-false-clause-adds g t c = λ told files row.
    let step : suc (c.args.level - 1 - 1) ≡ c.args.level - 1 = omega (arith, c.requires.level, c.if-level-eq1.false) in
    let place = (subst (λ (l : List Entry). IsPlace c.args.key l c.place_of-at.result) c.deref.ensures.value c.place_of-at.ensures.place) in
    let leads = c.entries_at.ensures.kept.leads in
    let told_b = g.P.Ground.leads_told c.args.pages.now c.entries_at.new.pages leads told in
    let files_b = subst (λ (y : Geometry). IsFilesPage y c.args.key) (sym (g.P.Ground.leads_geometry c.args.pages.now c.entries_at.new.pages leads)) files in
    let below_row = row_below g.P.Ground c.args.pages.now c.args.file_no (c.args.level - 1) (c.args.level - 1 - 1) c.args.key c.args.entries.now.items c.place_of-at.result c.index-child.result.now step place c.index-child.ensures
    c.entries_at.new.pages c.in-Ok.below.items c.entries_at.ensures.kept (c.in-Ok.ensures.entries told) row in
    stays_below g.P.Ground c.args.pages.now c.args.file_no (c.args.level - 1) (c.args.level - 1 - 1) c.args.key c.args.entries.now.items c.place_of-at.result c.index-child.result.now step place c.index-child.ensures
    c.entries_at.new.pages c.in-Ok.below.items c.entries_at.ensures.kept (c.in-Ok.ensures.entries told) c.add_among.new.pages (put_in c.args.key) c.add_among.new.entries.items (put_local c.args.key) row
    (c.in-Ok-false.ensures.adds told_b files_b below_row) (c.in-Ok-false.ensures.same c.in-Ok-false.field-0-test)

pub returns-in-Ok-replace_one-clause-adds : goal.returns-in-Ok-replace_one-clause-adds
returns-in-Ok-replace_one-clause-adds g t c = λ told files row.
    let step : suc (c.args.level - 1 - 1) ≡ c.args.level - 1 = omega (arith, c.requires.level, c.if-level-eq1.false) in
    let place = (subst (λ (l : List Entry). IsPlace c.args.key l c.place_of-at.result) c.deref.ensures.value c.place_of-at.ensures.place) in
    let leads = c.entries_at.ensures.kept.leads in
    let told_b = g.P.Ground.leads_told c.args.pages.now c.entries_at.new.pages leads told in
    let told_c = g.P.Ground.leads_told c.entries_at.new.pages c.add_among.new.pages c.add_among.ensures.leads told_b in
    let files_b = subst (λ (y : Geometry). IsFilesPage y c.args.key) (sym (g.P.Ground.leads_geometry c.args.pages.now c.entries_at.new.pages leads)) files in
    let read = c.in-Ok.ensures.entries told in
    let below_row = row_below g.P.Ground c.args.pages.now c.args.file_no (c.args.level - 1) (c.args.level - 1 - 1) c.args.key c.args.entries.now.items c.place_of-at.result c.index-child.result.now step place c.index-child.ensures
    c.entries_at.new.pages c.in-Ok.below.items c.entries_at.ensures.kept read row in
    let becomes = c.in-Ok-true.ensures.adds told_b files_b below_row in
    written_below g.P.Ground c.args.pages.now c.args.file_no (c.args.level - 1) (c.args.level - 1 - 1) c.args.key c.args.entries.now.items c.place_of-at.result c.index-child.result.now step place c.index-child.ensures
    c.entries_at.new.pages c.in-Ok.below.items c.entries_at.ensures.kept read c.add_among.new.pages c.store.new.pages (put_in c.args.key) c.add_among.new.entries.items c.replace_one.new.entries.items
    (record { key = c.index.result.now.key; page = c.index-child.result.now.page }) c.in-Ok-store.second (put_local c.args.key) row becomes
    c.in-Ok-store.ensures.changes (subst (λ (l : List Entry). Stored g.P.Ground c.store.new.pages c.index-child.result.now.page.0 (c.args.level - 1) c.args.file_no l c.in-Ok-store.second) c.deref-2.ensures.value (c.in-Ok-store.ensures.stored told_c)) (omega (arith, c.in-Ok.ensures.few, c.in-Ok-true.ensures.more)) refl (first_key_is c.add_among.new.entries.items c.index.result.now (omega (arith, c.in-Ok.ensures.few, c.in-Ok-true.ensures.more, least_page (g.P.Ground.geometry c.args.pages.now))) c.index.ensures) c.in-Ok-replace_one.ensures.items

pub returns-clause-cause : goal.returns-clause-cause
returns-clause-cause g t c = c.in-Err-replace_one.ensures.cause _ _

pub returns-in-Ok-false-clause-way : goal.returns-in-Ok-false-clause-way
returns-in-Ok-false-clause-way g t c =
    let above : c.args.level - 1 ≢ 0 = λ none. omega (arith, c.requires.level, c.if-level-eq1.false) in
    let child = child_at c.args.key c.args.entries.now.items c.place_of-at.result c.index-child.result.now (c.place_of-at.ensures.is ∙ ap (place_in c.args.key) c.deref.ensures.value)
    (subst (λ (l : List Entry). c.place_of-at.result < length l) c.deref.ensures.value c.place_of-at.ensures.place.inside) c.index-child.ensures in
    λ told. subst (λ (e : Entry). IsWay (g.P.Ground.geometry c.args.pages.now) (g.P.Ground.image c.args.pages.now) c.args.file_no c.args.key (c.args.level - 1) (Some e.key) e.page.0) child
    (page_way g.P.Ground c.args.pages.now c.entries_at.new.pages c.args.file_no (c.args.level - 1) (Some c.index-child.result.now.key) c.index-child.result.now.page.0 c.args.key c.in-Ok.below.items above c.entries_at.ensures.kept c.in-Ok.ensures.entries
    (λ told_a. record { area = c.in-Ok.ensures.area; named = c.in-Ok.ensures.named told_a }) c.in-Ok-false.ensures.way told)

pub returns-in-Ok-replace_one-clause-way : goal.returns-in-Ok-replace_one-clause-way
returns-in-Ok-replace_one-clause-way g t c =
    let above : c.args.level - 1 ≢ 0 = λ none. omega (arith, c.requires.level, c.if-level-eq1.false) in
    let child = child_at c.args.key c.args.entries.now.items c.place_of-at.result c.index-child.result.now (c.place_of-at.ensures.is ∙ ap (place_in c.args.key) c.deref.ensures.value)
    (subst (λ (l : List Entry). c.place_of-at.result < length l) c.deref.ensures.value c.place_of-at.ensures.place.inside) c.index-child.ensures in
    λ told. subst (λ (e : Entry). IsWay (g.P.Ground.geometry c.args.pages.now) (g.P.Ground.image c.args.pages.now) c.args.file_no c.args.key (c.args.level - 1) (Some e.key) e.page.0) child
    (page_way g.P.Ground c.args.pages.now c.entries_at.new.pages c.args.file_no (c.args.level - 1) (Some c.index-child.result.now.key) c.index-child.result.now.page.0 c.args.key c.in-Ok.below.items above c.entries_at.ensures.kept c.in-Ok.ensures.entries
    (λ told_a. record { area = c.in-Ok.ensures.area; named = c.in-Ok.ensures.named told_a }) c.in-Ok-true.ensures.way told)

pub returns-in-Err-clause-fault : goal.returns-in-Err-clause-fault
returns-in-Err-clause-fault g t c =
    let above : c.args.level - 1 ≢ 0 = λ none. omega (arith, c.requires.level, c.if-level-eq1.false) in
    let child = child_at c.args.key c.args.entries.now.items c.place_of-at.result c.index-child.result.now (c.place_of-at.ensures.is ∙ ap (place_in c.args.key) c.deref.ensures.value)
    (subst (λ (l : List Entry). c.place_of-at.result < length l) c.deref.ensures.value c.place_of-at.ensures.place.inside) c.index-child.ensures in
    λ told. subst (λ (e : Entry). IsWayFault (g.P.Ground.geometry c.args.pages.now) (g.P.Ground.held c.args.pages.now) (g.P.Ground.image c.args.pages.now) c.args.file_no c.args.key (c.args.level - 1) (Some e.key) e.page.0 c.in-Err.fault) child
    (way_here (g.P.Ground.geometry c.args.pages.now) (g.P.Ground.held c.args.pages.now) (g.P.Ground.image c.args.pages.now) c.args.file_no c.args.key (c.args.level - 1) (Some c.index-child.result.now.key) c.index-child.result.now.page.0 c.in-Err.fault above (c.in-Err.ensures.fault told))

pub returns-in-Err-add_among-clause-fault : goal.returns-in-Err-add_among-clause-fault
returns-in-Err-add_among-clause-fault g t c =
    let above : c.args.level - 1 ≢ 0 = λ none. omega (arith, c.requires.level, c.if-level-eq1.false) in
    let child = child_at c.args.key c.args.entries.now.items c.place_of-at.result c.index-child.result.now (c.place_of-at.ensures.is ∙ ap (place_in c.args.key) c.deref.ensures.value)
    (subst (λ (l : List Entry). c.place_of-at.result < length l) c.deref.ensures.value c.place_of-at.ensures.place.inside) c.index-child.ensures in
    λ told. subst (λ (e : Entry). IsWayFault (g.P.Ground.geometry c.args.pages.now) (g.P.Ground.held c.args.pages.now) (g.P.Ground.image c.args.pages.now) c.args.file_no c.args.key (c.args.level - 1) (Some e.key) e.page.0 c.in-Err-add_among.fault) child
    (page_fault g.P.Ground c.args.pages.now c.entries_at.new.pages c.args.file_no (c.args.level - 1) (Some c.index-child.result.now.key) c.index-child.result.now.page.0 c.args.key c.in-Ok.below.items above c.entries_at.ensures.kept c.in-Ok.ensures.entries
    (λ told_a. record { area = c.in-Ok.ensures.area; named = c.in-Ok.ensures.named told_a }) c.in-Err-add_among.fault c.in-Err-add_among.ensures.fault told)

pub store-requires-clause-held : goal.store-requires-clause-held
store-requires-clause-held g t c = c.in-Ok-true.ensures.takes.held c.index-child.result.now.page.0 (rw c.entries_at.ensures.kept.held c.in-Ok.ensures.held)

pub store-requires-clause-ready : goal.store-requires-clause-ready
store-requires-clause-ready g t c = g.P.Ground.leads_ready _ _ (g.P.Ground.leads_trans _ _ _ c.entries_at.ensures.kept.leads c.add_among.ensures.leads) c.requires.ready

pub store-requires-clause-page : goal.store-requires-clause-page
store-requires-clause-page g t c = page_after g.P.Ground _ _ (g.P.Ground.leads_trans _ _ _ c.entries_at.ensures.kept.leads c.add_among.ensures.leads) _ c.in-Ok.ensures.area

pub returns-then-level-eq1-clause-leads : goal.returns-then-level-eq1-clause-leads
returns-then-level-eq1-clause-leads g t c = g.P.Ground.leads_refl _

pub returns-in-Ok-false-clause-leads : goal.returns-in-Ok-false-clause-leads
returns-in-Ok-false-clause-leads g t c = g.P.Ground.leads_trans _ _ _ c.entries_at.ensures.kept.leads c.add_among.ensures.leads

pub returns-in-Err-add_among-clause-leads : goal.returns-in-Err-add_among-clause-leads
returns-in-Err-add_among-clause-leads g t c = g.P.Ground.leads_trans _ _ _ c.entries_at.ensures.kept.leads c.add_among.ensures.leads

pub returns-in-Err-add_among-clause-cause : goal.returns-in-Err-add_among-clause-cause
returns-in-Err-add_among-clause-cause g t c = cause_after g.P.Ground _ _ c.entries_at.ensures.kept.leads c.add_among.new.pages c.in-Err-add_among.fault c.in-Err-add_among.ensures.cause

pub returns-in-Err-store-clause-leads : goal.returns-in-Err-store-clause-leads
returns-in-Err-store-clause-leads g t c = g.P.Ground.leads_trans _ _ _ c.entries_at.ensures.kept.leads (g.P.Ground.leads_trans _ _ _ c.add_among.ensures.leads c.store.ensures.leads)

pub returns-in-Err-store-clause-cause : goal.returns-in-Err-store-clause-cause
returns-in-Err-store-clause-cause g t c = cause_after g.P.Ground _ _ (g.P.Ground.leads_trans _ _ _ c.entries_at.ensures.kept.leads c.add_among.ensures.leads) c.store.new.pages c.in-Err-store.fault c.in-Err-store.ensures.cause

pub returns-in-Ok-replace_one-clause-leads : goal.returns-in-Ok-replace_one-clause-leads
returns-in-Ok-replace_one-clause-leads g t c = g.P.Ground.leads_trans _ _ _ c.entries_at.ensures.kept.leads (g.P.Ground.leads_trans _ _ _ c.add_among.ensures.leads c.store.ensures.leads)

pub returns-clause-leads : goal.returns-clause-leads
returns-clause-leads g t c = g.P.Ground.leads_trans _ _ _ c.entries_at.ensures.kept.leads (g.P.Ground.leads_trans _ _ _ c.add_among.ensures.leads c.store.ensures.leads)

pub store-requires-clause-buffer : goal.store-requires-clause-buffer
store-requires-clause-buffer g t c =
    size_after g.P.Ground _ _ (g.P.Ground.leads_trans _ _ _ c.entries_at.ensures.kept.leads c.add_among.ensures.leads) _
    (c.add_among.auto.buffer ∙ c.requires.buffer)

pub returns-in-Ok-replace_one-clause-more : goal.returns-in-Ok-replace_one-clause-more
returns-in-Ok-replace_one-clause-more g t c = replaced_more c.args.entries.now.items c.replace_one.new.entries.items c.place_of-at.result (record { key = c.index.result.now.key; page = c.index-child.result.now.page }) c.in-Ok-store.second
    (subst (λ (l : List Entry). c.place_of-at.result < length l) c.deref.ensures.value c.place_of-at.ensures.place.inside) c.in-Ok-replace_one.ensures.items

pub returns-in-Ok-replace_one-clause-same : goal.returns-in-Ok-replace_one-clause-same
returns-in-Ok-replace_one-clause-same g t c = λ unchanged. elim c.if-first-child.branch [
  | then-first-child w ↦ absurd (key_differs c.index.result.now.key c.index-child.result.now.key w.if-first-child.true (sym w.changed-is ∙ unchanged))
  | else-first-child w ↦ replaced_same c.args.entries.now.items c.replace_one.new.entries.items c.place_of-at.result c.index-child.result.now (record { key = c.index.result.now.key; page = c.index-child.result.now.page }) c.in-Ok-store.second
      (subst (λ (l : List Entry). c.place_of-at.result < length l) c.deref.ensures.value c.place_of-at.ensures.place.inside) c.index-child.ensures c.in-Ok-replace_one.ensures.items
      (ap (λ (k : ℕ). entry_of k c.index-child.result.now.page) w.if-first-child.false) (no_second c.in-Ok-store.second (sym w.is_some-changed.ensures ∙ sym w.changed-is ∙ unchanged))
]

pub returns-in-Ok-replace_one-clause-free : goal.returns-in-Ok-replace_one-clause-free
returns-in-Ok-replace_one-clause-free g t c =
    free_here _ _ _ _ c.args.level (ap (λ (f : Area → ℕ). f Page) c.entries_at.ensures.kept.free) c.requires.level c.in-Ok-true.ensures.free
    c.in-Ok-store.ensures.free

pub returns-in-Err-store-clause-sound : goal.returns-in-Err-store-clause-sound
returns-in-Err-store-clause-sound g t c = λ damage told row. c.in-Err-store.ensures.no_damage damage

pub returns-clause-sound : goal.returns-clause-sound
returns-clause-sound g t c = λ damage told row. c.in-Err-replace_one.ensures.no_damage damage

pub returns-in-Err-clause-adds : goal.returns-in-Err-clause-adds
returns-in-Err-clause-adds g t c = tt

pub returns-in-Err-clause-same : goal.returns-in-Err-clause-same
returns-in-Err-clause-same g t c = tt

pub returns-in-Err-clause-more : goal.returns-in-Err-clause-more
returns-in-Err-clause-more g t c = tt

pub returns-in-Err-clause-free : goal.returns-in-Err-clause-free
returns-in-Err-clause-free g t c = tt

pub returns-in-Err-clause-takes : goal.returns-in-Err-clause-takes
returns-in-Err-clause-takes g t c = tt

pub returns-in-Err-clause-way : goal.returns-in-Err-clause-way
returns-in-Err-clause-way g t c = tt

pub returns-in-Err-clause-catalog : goal.returns-in-Err-clause-catalog
returns-in-Err-clause-catalog g t c = tt

pub returns-in-Err-clause-leaves : goal.returns-in-Err-clause-leaves
returns-in-Err-clause-leaves g t c = tt

pub returns-in-Err-clause-touches : goal.returns-in-Err-clause-touches
returns-in-Err-clause-touches g t c = tt

pub returns-in-Err-add_among-clause-adds : goal.returns-in-Err-add_among-clause-adds
returns-in-Err-add_among-clause-adds g t c = tt

pub returns-in-Err-add_among-clause-same : goal.returns-in-Err-add_among-clause-same
returns-in-Err-add_among-clause-same g t c = tt

pub returns-in-Err-add_among-clause-more : goal.returns-in-Err-add_among-clause-more
returns-in-Err-add_among-clause-more g t c = tt

pub returns-in-Err-add_among-clause-free : goal.returns-in-Err-add_among-clause-free
returns-in-Err-add_among-clause-free g t c = tt

pub returns-in-Err-add_among-clause-takes : goal.returns-in-Err-add_among-clause-takes
returns-in-Err-add_among-clause-takes g t c = tt

pub returns-in-Err-add_among-clause-way : goal.returns-in-Err-add_among-clause-way
returns-in-Err-add_among-clause-way g t c = tt

pub returns-in-Err-add_among-clause-catalog : goal.returns-in-Err-add_among-clause-catalog
returns-in-Err-add_among-clause-catalog g t c = tt

pub returns-in-Err-add_among-clause-leaves : goal.returns-in-Err-add_among-clause-leaves
returns-in-Err-add_among-clause-leaves g t c = tt

pub returns-in-Err-add_among-clause-touches : goal.returns-in-Err-add_among-clause-touches
returns-in-Err-add_among-clause-touches g t c = tt

pub returns-in-Err-store-clause-adds : goal.returns-in-Err-store-clause-adds
returns-in-Err-store-clause-adds g t c = tt

pub returns-in-Err-store-clause-same : goal.returns-in-Err-store-clause-same
returns-in-Err-store-clause-same g t c = tt

pub returns-in-Err-store-clause-more : goal.returns-in-Err-store-clause-more
returns-in-Err-store-clause-more g t c = tt

pub returns-in-Err-store-clause-free : goal.returns-in-Err-store-clause-free
returns-in-Err-store-clause-free g t c = tt

pub returns-in-Err-store-clause-takes : goal.returns-in-Err-store-clause-takes
returns-in-Err-store-clause-takes g t c = tt

pub returns-in-Err-store-clause-way : goal.returns-in-Err-store-clause-way
returns-in-Err-store-clause-way g t c = tt

pub returns-in-Err-store-clause-catalog : goal.returns-in-Err-store-clause-catalog
returns-in-Err-store-clause-catalog g t c = tt

pub returns-in-Err-store-clause-leaves : goal.returns-in-Err-store-clause-leaves
returns-in-Err-store-clause-leaves g t c = tt

pub returns-in-Err-store-clause-touches : goal.returns-in-Err-store-clause-touches
returns-in-Err-store-clause-touches g t c = tt

pub returns-clause-adds : goal.returns-clause-adds
returns-clause-adds g t c = tt

pub returns-clause-same : goal.returns-clause-same
returns-clause-same g t c = tt

pub returns-clause-more : goal.returns-clause-more
returns-clause-more g t c = tt

pub returns-clause-free : goal.returns-clause-free
returns-clause-free g t c = tt

pub returns-clause-takes : goal.returns-clause-takes
returns-clause-takes g t c = tt

pub returns-clause-way : goal.returns-clause-way
returns-clause-way g t c = tt

pub returns-clause-catalog : goal.returns-clause-catalog
returns-clause-catalog g t c = tt

pub returns-clause-leaves : goal.returns-clause-leaves
returns-clause-leaves g t c = tt

pub returns-clause-touches : goal.returns-clause-touches
returns-clause-touches g t c = tt

pub returns-in-Ok-false-clause-sound : goal.returns-in-Ok-false-clause-sound
returns-in-Ok-false-clause-sound g t c = tt

pub returns-in-Ok-false-clause-fault : goal.returns-in-Ok-false-clause-fault
returns-in-Ok-false-clause-fault g t c = tt

pub returns-in-Ok-false-clause-cause : goal.returns-in-Ok-false-clause-cause
returns-in-Ok-false-clause-cause g t c = tt

pub returns-in-Ok-replace_one-clause-sound : goal.returns-in-Ok-replace_one-clause-sound
returns-in-Ok-replace_one-clause-sound g t c = tt

pub returns-in-Ok-replace_one-clause-fault : goal.returns-in-Ok-replace_one-clause-fault
returns-in-Ok-replace_one-clause-fault g t c = tt

pub returns-in-Ok-replace_one-clause-cause : goal.returns-in-Ok-replace_one-clause-cause
returns-in-Ok-replace_one-clause-cause g t c = tt

pub returns-in-Err-clause-cause : goal.returns-in-Err-clause-cause
returns-in-Err-clause-cause g t c = c.in-Err.ensures.cause

pub returns-in-Err-clause-leads : goal.returns-in-Err-clause-leads
returns-in-Err-clause-leads g t c = c.entries_at.ensures.kept.leads

pub entries_at-requires : goal.entries_at-requires
entries_at-requires g t c = c.requires.ready

pub add_leaf-requires : goal.add_leaf-requires
add_leaf-requires g t c = subst (λ (l : List Entry). c.place_of-at.result < length l) c.deref.ensures.value c.place_of-at.ensures.place.inside

pub replace_one-requires : goal.replace_one-requires
replace_one-requires g t c = subst (λ (l : List Entry). c.place_of-at.result < length l) c.deref.ensures.value c.place_of-at.ensures.place.inside

pub returns-then-level-eq1-clause-takes : goal.returns-then-level-eq1-clause-takes
returns-then-level-eq1-clause-takes g t c = on_ok_from c.add_leaf.result _ (λ leaf is. same_takes g.P.Ground _ _ refl refl)

pub returns-then-level-eq1-clause-touches : goal.returns-then-level-eq1-clause-touches
returns-then-level-eq1-clause-touches g t c = on_ok_from c.add_leaf.result _ (λ leaf is. more_none _ _)

pub returns-then-level-eq1-clause-catalog : goal.returns-then-level-eq1-clause-catalog
returns-then-level-eq1-clause-catalog g t c = on_ok_from c.add_leaf.result _ (λ leaf is. refl)

pub returns-then-level-eq1-clause-leaves : goal.returns-then-level-eq1-clause-leaves
returns-then-level-eq1-clause-leaves g t c = on_ok_from c.add_leaf.result _ (λ leaf is. refl)

pub returns-then-level-eq1-clause-free : goal.returns-then-level-eq1-clause-free
returns-then-level-eq1-clause-free g t c = on_ok_from c.add_leaf.result _ (λ leaf is. one_and_more _ c.args.level c.requires.level)

pub returns-then-level-eq1-clause-way : goal.returns-then-level-eq1-clause-way
returns-then-level-eq1-clause-way g t c =
    on_ok_from c.add_leaf.result _ (λ leaf is told. way_ends (g.P.Ground.geometry c.args.pages.now) (g.P.Ground.image c.args.pages.now) c.args.file_no
    c.args.key c.args.level c.args.entries.now.items c.if-level-eq1.true)

pub returns-then-level-eq1-clause-same : goal.returns-then-level-eq1-clause-same
returns-then-level-eq1-clause-same g t c =
    IfOk-weaker c.add_leaf.result _ _ (λ changed puts. put_same c.args.key c.place_of-at.result c.index-child.result.now c.args.entries.now.items
    c.add_leaf.new.entries.items changed puts) c.add_leaf.ensures.added

pub returns-then-level-eq1-clause-more : goal.returns-then-level-eq1-clause-more
returns-then-level-eq1-clause-more g t c =
    if_ok_on_ok c.add_leaf.result _ _ (λ changed puts. put_more c.args.key c.place_of-at.result c.index-child.result.now c.args.entries.now.items
    c.add_leaf.new.entries.items changed (subst (λ (l : List Entry). c.place_of-at.result < length l) c.deref.ensures.value
    c.place_of-at.ensures.place.inside) puts) c.add_leaf.ensures.added

pub returns-then-level-eq1-clause-sound : goal.returns-then-level-eq1-clause-sound
returns-then-level-eq1-clause-sound g t c = IfErr-weaker c.add_leaf.result _ _ (λ fault never damage told row. never damage) c.add_leaf.ensures.no_damage

pub returns-then-level-eq1-clause-fault : goal.returns-then-level-eq1-clause-fault
returns-then-level-eq1-clause-fault g t c =
    IfErr-weaker c.add_leaf.result _ _ (λ fault never told. other_under (g.P.Ground.geometry c.args.pages.now) (g.P.Ground.held c.args.pages.now)
    (g.P.Ground.image c.args.pages.now) c.args.file_no c.args.key (c.args.level - 1) c.args.entries.now.items fault never) c.add_leaf.ensures.no_damage

pub returns-in-Ok-false-clause-free : goal.returns-in-Ok-false-clause-free
returns-in-Ok-false-clause-free g t c =
    free_below _ _ _ c.args.level (ap (λ (f : Area → ℕ). f Page) c.entries_at.ensures.kept.free) c.requires.level c.in-Ok-false.ensures.free

pub returns-in-Ok-false-clause-leaves : goal.returns-in-Ok-false-clause-leaves
returns-in-Ok-false-clause-leaves g t c = c.in-Ok-false.ensures.leaves ∙ ap (λ (f : Area → ℕ). f Segment) c.entries_at.ensures.kept.free

pub returns-in-Ok-false-clause-touches : goal.returns-in-Ok-false-clause-touches
returns-in-Ok-false-clause-touches g t c = touched_below _ _ _ c.args.level c.entries_at.ensures.kept.touched c.in-Ok-false.ensures.touches

pub returns-in-Ok-false-clause-takes : goal.returns-in-Ok-false-clause-takes
returns-in-Ok-false-clause-takes g t c = takes_on g.P.Ground _ _ _ (keeps_takes g.P.Ground _ _ c.entries_at.ensures.kept) c.in-Ok-false.ensures.takes

pub returns-in-Ok-false-clause-catalog : goal.returns-in-Ok-false-clause-catalog
returns-in-Ok-false-clause-catalog g t c = c.in-Ok-false.ensures.catalog ∙ ap (λ (f : ℕ → List ℕ). f catalog_no) c.entries_at.ensures.kept.images

pub returns-in-Ok-false-clause-same : goal.returns-in-Ok-false-clause-same
returns-in-Ok-false-clause-same g t c = λ unchanged. refl

pub returns-in-Ok-false-clause-more : goal.returns-in-Ok-false-clause-more
returns-in-Ok-false-clause-more g t c = (le_from refl, more_none _ 1)

pub returns-in-Ok-replace_one-clause-touches : goal.returns-in-Ok-replace_one-clause-touches
returns-in-Ok-replace_one-clause-touches g t c =
    touched_here _ _ _ _ 2 c.args.level (two_levels c.args.level c.requires.level c.if-level-eq1.false) (le_from refl) c.entries_at.ensures.kept.touched
    c.in-Ok-true.ensures.touches c.in-Ok-store.ensures.touches

pub returns-in-Ok-replace_one-clause-leaves : goal.returns-in-Ok-replace_one-clause-leaves
returns-in-Ok-replace_one-clause-leaves g t c =
    c.in-Ok-store.ensures.changes.leaves ∙ c.in-Ok-true.ensures.leaves ∙ ap (λ (f : Area → ℕ). f Segment) c.entries_at.ensures.kept.free

pub returns-in-Ok-replace_one-clause-takes : goal.returns-in-Ok-replace_one-clause-takes
returns-in-Ok-replace_one-clause-takes g t c =
    takes_on g.P.Ground _ _ _ (keeps_takes g.P.Ground _ _ c.entries_at.ensures.kept)
    (takes_on g.P.Ground _ _ _ c.in-Ok-true.ensures.takes c.in-Ok-store.ensures.takes)

pub returns-in-Ok-replace_one-clause-catalog : goal.returns-in-Ok-replace_one-clause-catalog
returns-in-Ok-replace_one-clause-catalog g t c =
    c.in-Ok-store.ensures.catalog ∙ c.in-Ok-true.ensures.catalog ∙ ap (λ (f : ℕ → List ℕ). f catalog_no) c.entries_at.ensures.kept.images

pub returns-clause-fault : goal.returns-clause-fault
returns-clause-fault g t c =
    λ told. other_under (g.P.Ground.geometry c.args.pages.now) (g.P.Ground.held c.args.pages.now) (g.P.Ground.image c.args.pages.now) c.args.file_no
    c.args.key (c.args.level - 1) c.args.entries.now.items c.in-Err-replace_one.fault c.in-Err-replace_one.ensures.no_damage

pub returns-in-Err-store-clause-fault : goal.returns-in-Err-store-clause-fault
returns-in-Err-store-clause-fault g t c =
    λ told. other_under (g.P.Ground.geometry c.args.pages.now) (g.P.Ground.held c.args.pages.now) (g.P.Ground.image c.args.pages.now) c.args.file_no
    c.args.key (c.args.level - 1) c.args.entries.now.items c.in-Err-store.fault c.in-Err-store.ensures.no_damage

pub index-requires : goal.index-requires
index-requires g t c =
    subst (λ (n : ℕ). 0 < n) (sym c.add_among.new.entries.ok.0)
    (some_entries (g.P.Ground.geometry c.args.pages.now) (Some c.index-child.result.now.key) _ _ c.in-Ok.ensures.few c.in-Ok-true.ensures.more.0)

pub store-requires-clause-level : goal.store-requires-clause-level
store-requires-clause-level g t c = level_below c.args.level c.requires.level c.if-level-eq1.false

pub store-requires-clause-some : goal.store-requires-clause-some
store-requires-clause-some g t c =
    subst (λ (l : List Entry). 1 ≤ length l) (sym c.deref-2.ensures.value)
    (some_entries (g.P.Ground.geometry c.args.pages.now) (Some c.index-child.result.now.key) _ _ c.in-Ok.ensures.few c.in-Ok-true.ensures.more.0)

pub store-requires-clause-room : goal.store-requires-clause-room
store-requires-clause-room g t c =
    subst (λ (l : List Entry). length l ≤ most_entries (g.P.Ground.geometry c.add_among.new.pages).page_size + 1) (sym c.deref-2.ensures.value)
    (one_more_after g.P.Ground _ _ (g.P.Ground.leads_trans _ _ _ c.entries_at.ensures.kept.leads c.add_among.ensures.leads) _
    (one_more_than _ _ _ c.in-Ok-true.ensures.more.1 c.in-Ok.ensures.many))

pub store-requires-clause-free : goal.store-requires-clause-free
store-requires-clause-free g t c =
    one_free _ _ _ c.args.level (ap (λ (f : Area → ℕ). f Page) c.entries_at.ensures.kept.free) c.requires.level c.requires.free c.in-Ok-true.ensures.free
