use Rattle.std.proofs.Common.{◌≡◌, ◌≢◌, ◌<◌, Some, length, inl, inr, ◌+◌, ◌-◌, suc, List, take, drop, None, subst, sym, ap, ◌∙◌, refl, arith, true≢false, ◌≤◌, ℕ, true}
use Rattle.std.proofs.lemmas.Result.{on_ok_weaker}
use Rattle.ex_base.proofs.Results.{if_err_handed, if_ok_both}
use Rattle.std.specs.Prelude.{◌==◌, if◌then◌else◌}
use Rattle.ex_base.specs.declared.geometry.Geometry.{Geometry}
use Rattle.file_index.specs.declared.Entry.{Entry}
use Rattle.file_index.specs.IndexPage.{entries_on, most_entries}
use Rattle.file_index.specs.Edits.{take_out}
use Rattle.file_index.specs.Nodes.{IsPlace, IsWritten, first_key}
use Rattle.file_index.specs.Damage.{place_in, beside_in, IsWay, IsWayFault, IsEntryFault}
use Rattle.file_index.proofs.Blame.{way_here, other_under}
use Rattle.file_index.proofs.Ways.{child_at, beside_at, page_way, page_gone, page_removal, under_removal, entry_fault}
use Rattle.file_index.proofs.Descent.{on_three}
use Rattle.file_index.proofs.Lists.{out_local}
use Rattle.file_index.proofs.Descending.{never_read, row_below, held_below, stays_below, written_below}
use Rattle.file_index.proofs.Leaves.{leaf_removed, removed_same, removed_fewer, way_ends}
use Rattle.file_index.proofs.Mending.{pair_known, mended, still_named, pages_differ, thin_is}
use Rattle.ex_base.proofs.Handed.{cause_after, cause_of, no_value, not_given}
use Rattle.file_index.proofs.LaterStates.{page_after, room_after, size_after}
use Rattle.file_index.proofs.Replacing.{replaced_same, replaced_once, kept_entry, replaced_pair}
use Rattle.std.proofs.lemmas.Result.{IfErr-weaker}
use Rattle.ex_base.specs.Area.{catalog_no}
use Rattle.ex_base.specs.declared.names.Area.{Area}
use Rattle.ex_base.specs.declared.names.Area.TheVariants.{Page, Segment}
use Rattle.file_index.proofs.Chains.{keeps_gives, same_gives, gives_on, more_none, less_on, le_from, free_on, two_levels, level_below, touched_below, touched_here}
use Rattle.file_index.proofs.Lone.{as_many, leaf_lone, pair_lone}
use Rattle.file_index.proofs.Rooms.{first_inside, second_inside, enough_some}
use Rattle.file_index.specs.Index.{IsFilesPage}
use Rattle.file_index.proofs.removing.+remove_among.Goals as goal

pub returns-then-level-eq1-clause-removes : goal.returns-then-level-eq1-clause-removes
returns-then-level-eq1-clause-removes g t c = λ told row.
    leaf_removed g.P.Ground c.args.pages.now c.args.file_no (c.args.level - 1) c.args.key c.place_of-at.result c.index-child.result.now c.args.entries.now.items c.remove_leaf.new.entries.items c.remove_leaf.result
    (omega (arith, c.if-level-eq1.true)) (subst (λ (l : List Entry). IsPlace c.args.key l c.place_of-at.result) c.deref.ensures.value c.place_of-at.ensures.place) c.index-child.ensures c.remove_leaf.ensures row

pub returns-in-Err-clause-sound : goal.returns-in-Err-clause-sound
returns-in-Err-clause-sound g t c = λ damage told row.
    let step : suc (c.args.level - 1 - 1) ≡ c.args.level - 1 = omega (arith, c.requires.level, c.if-level-eq1.false) in
    let place = (subst (λ (l : List Entry). IsPlace c.args.key l c.place_of-at.result) c.deref.ensures.value c.place_of-at.ensures.place) in
    never_read g.P.Ground c.args.pages.now c.args.file_no (c.args.level - 1) (c.args.level - 1 - 1) c.args.key c.args.entries.now.items c.place_of-at.result c.index-child.result.now step place c.index-child.ensures (c.in-Err.ensures.sound damage told) row

pub returns-in-Err-remove_among-clause-sound : goal.returns-in-Err-remove_among-clause-sound
returns-in-Err-remove_among-clause-sound g t c = λ damage told row.
    let step : suc (c.args.level - 1 - 1) ≡ c.args.level - 1 = omega (arith, c.requires.level, c.if-level-eq1.false) in
    let place = (subst (λ (l : List Entry). IsPlace c.args.key l c.place_of-at.result) c.deref.ensures.value c.place_of-at.ensures.place) in
    let told_b = g.P.Ground.leads_told c.args.pages.now c.entries_at.new.pages c.entries_at.ensures.kept.leads told in
    let read = c.in-Ok.ensures.entries told in
    let below_row = row_below g.P.Ground c.args.pages.now c.args.file_no (c.args.level - 1) (c.args.level - 1 - 1) c.args.key c.args.entries.now.items c.place_of-at.result c.index-child.result.now step place c.index-child.ensures c.entries_at.new.pages c.in-Ok.below.items c.entries_at.ensures.kept read row in
    c.in-Err-remove_among.ensures.sound damage told_b below_row

pub returns-in-Ok-false-clause-removes : goal.returns-in-Ok-false-clause-removes
returns-in-Ok-false-clause-removes g t c = λ told row.
    let step : suc (c.args.level - 1 - 1) ≡ c.args.level - 1 = omega (arith, c.requires.level, c.if-level-eq1.false) in
    let place = (subst (λ (l : List Entry). IsPlace c.args.key l c.place_of-at.result) c.deref.ensures.value c.place_of-at.ensures.place) in
    let told_b = g.P.Ground.leads_told c.args.pages.now c.entries_at.new.pages c.entries_at.ensures.kept.leads told in
    let read = c.in-Ok.ensures.entries told in
    let below_row = row_below g.P.Ground c.args.pages.now c.args.file_no (c.args.level - 1) (c.args.level - 1 - 1) c.args.key c.args.entries.now.items c.place_of-at.result c.index-child.result.now step place c.index-child.ensures c.entries_at.new.pages c.in-Ok.below.items c.entries_at.ensures.kept read row in
    stays_below g.P.Ground c.args.pages.now c.args.file_no (c.args.level - 1) (c.args.level - 1 - 1) c.args.key c.args.entries.now.items c.place_of-at.result c.index-child.result.now step place c.index-child.ensures c.entries_at.new.pages c.in-Ok.below.items c.entries_at.ensures.kept read c.remove_among.new.pages (take_out c.args.key) c.remove_among.new.entries.items (out_local c.args.key) row
    (c.in-Ok-false.ensures.removes told_b below_row) (c.in-Ok-false.ensures.same c.in-Ok-false.field-0-test)

pub returns-then-len-most_entries-clause-removes : goal.returns-then-len-most_entries-clause-removes
returns-then-len-most_entries-clause-removes g t c =
    on_three c.write_child.result _ _ _ _ c.write_child.ensures.written c.write_child.ensures.changes c.write_child.ensures.items (λ written changes items told row.
    let step : suc (c.args.level - 1 - 1) ≡ c.args.level - 1 = omega (arith, c.requires.level, c.if-level-eq1.false) in
    let place = (subst (λ (l : List Entry). IsPlace c.args.key l c.place_of-at.result) c.deref.ensures.value c.place_of-at.ensures.place) in
    let told_b = g.P.Ground.leads_told c.args.pages.now c.entries_at.new.pages c.entries_at.ensures.kept.leads told in
    let read = c.in-Ok.ensures.entries told in
    let below_row = row_below g.P.Ground c.args.pages.now c.args.file_no (c.args.level - 1) (c.args.level - 1 - 1) c.args.key c.args.entries.now.items c.place_of-at.result c.index-child.result.now step place c.index-child.ensures c.entries_at.new.pages c.in-Ok.below.items c.entries_at.ensures.kept read row in
    let told_c = g.P.Ground.leads_told c.entries_at.new.pages c.remove_among.new.pages c.remove_among.ensures.leads told_b in
    let becomes = c.in-Ok-true.ensures.removes told_b below_row in
    let same = c.deref-then-len-most_entries.ensures.value in
    written_below g.P.Ground c.args.pages.now c.args.file_no (c.args.level - 1) (c.args.level - 1 - 1) c.args.key c.args.entries.now.items c.place_of-at.result c.index-child.result.now step place c.index-child.ensures c.entries_at.new.pages c.in-Ok.below.items c.entries_at.ensures.kept read c.remove_among.new.pages c.write_child.new.pages (take_out c.args.key) c.remove_among.new.entries.items c.write_child.new.entries.items
    (record { key = first_key c.deref-then-len-most_entries.result.now; page = c.index-child.result.now.page }) None (out_local c.args.key) row becomes changes
    (subst (λ (l : List Entry). IsWritten g.P.Ground c.write_child.new.pages c.index-child.result.now.page.0 (c.args.level - 1) c.args.file_no l) same (written told_c))
    (omega (arith, c.if-len-most_entries.true, c.most_entries.ensures, c.requires.buffer)) refl (ap first_key same) items)

pub returns-in-Ok-spread-clause-removes : goal.returns-in-Ok-spread-clause-removes
returns-in-Ok-spread-clause-removes g t c = λ told row.
    let step : suc (c.args.level - 1 - 1) ≡ c.args.level - 1 = omega (arith, c.requires.level, c.if-level-eq1.false) in
    let place = (subst (λ (l : List Entry). IsPlace c.args.key l c.place_of-at.result) c.deref.ensures.value c.place_of-at.ensures.place) in
    let told_b = g.P.Ground.leads_told c.args.pages.now c.entries_at.new.pages c.entries_at.ensures.kept.leads told in
    let read = c.in-Ok.ensures.entries told in
    let below_row = row_below g.P.Ground c.args.pages.now c.args.file_no (c.args.level - 1) (c.args.level - 1 - 1) c.args.key c.args.entries.now.items c.place_of-at.result c.index-child.result.now step place c.index-child.ensures c.entries_at.new.pages c.in-Ok.below.items c.entries_at.ensures.kept read row in
    let told_c = g.P.Ground.leads_told c.entries_at.new.pages c.remove_among.new.pages c.remove_among.ensures.leads told_b in
    let becomes = c.in-Ok-true.ensures.removes told_b below_row in
    let known = pair_known g.P.Ground c.args.pages.now c.args.file_no (c.args.level - 1 - 1) c.args.key (c.args.level - 1) c.args.entries.now.items c.place_of-at.result c.saturating_sub-first.result c.index-child.result.now (record { left = c.index.result.now; right = c.index-2.result.now; thin_is_left = c.place_of-at.result == 0; level = c.args.level - 1; file_no = c.args.file_no })
    place c.index-child.ensures (omega (arith, c.saturating_sub-first.ensures)) refl c.requires.some c.index.ensures c.index-2.ensures row in
    let thin_read = read ∙ ap (λ (e : Entry). entries_on (g.P.Ground.image c.args.pages.now e.page.0)) (sym known.thin) in
    mended g.P.Ground c.args.pages.now c.args.file_no (c.args.level - 1 - 1) c.args.key (record { left = c.index.result.now; right = c.index-2.result.now; thin_is_left = c.place_of-at.result == 0; level = c.args.level - 1; file_no = c.args.file_no }) (c.args.level - 1)
    (take c.saturating_sub-first.result c.args.entries.now.items) (drop (c.saturating_sub-first.result + 2) c.args.entries.now.items) c.args.entries.now.items step known.split.is row known.lacks
    c.entries_at.new.pages c.remove_among.new.pages c.in-Ok.below.items c.remove_among.new.entries.items c.entries_at.ensures.kept thin_read becomes
    c.spread.new.pages c.in-Ok-spread.left c.in-Ok-spread.right c.replace_two.new.entries.items
    c.in-Ok-spread.ensures.changes
    (c.in-Ok-spread.ensures.stored told_c (pages_differ g.P.Ground c.args.pages.now c.args.file_no (c.args.level - 1 - 1) c.args.key (record { left = c.index.result.now; right = c.index-2.result.now; thin_is_left = c.place_of-at.result == 0; level = c.args.level - 1; file_no = c.args.file_no }) (c.args.level - 1)
    (take c.saturating_sub-first.result c.args.entries.now.items) (drop (c.saturating_sub-first.result + 2) c.args.entries.now.items) c.args.entries.now.items step known.split.is row known.lacks
    c.entries_at.new.pages c.remove_among.new.pages c.in-Ok.below.items c.remove_among.new.entries.items c.entries_at.ensures.kept thin_read becomes))
    (c.in-Ok-spread.ensures.enough told_c) (ap (λ p. p.0) c.in-Ok-spread.ensures.page) (c.in-Ok-spread.ensures.key told_c) c.replace_two.ensures

pub returns-in-Ok-spread-clause-leads : goal.returns-in-Ok-spread-clause-leads
returns-in-Ok-spread-clause-leads g t c =
    let on = g.P.Ground.leads_trans in
    on _ _ _ c.entries_at.ensures.kept.leads (on _ _ _ c.remove_among.ensures.leads c.spread.ensures.leads)

pub returns-in-Err-spread-clause-sound : goal.returns-in-Err-spread-clause-sound
returns-in-Err-spread-clause-sound g t c = λ damage told row.
    let step : suc (c.args.level - 1 - 1) ≡ c.args.level - 1 = omega (arith, c.requires.level, c.if-level-eq1.false) in
    let place = (subst (λ (l : List Entry). IsPlace c.args.key l c.place_of-at.result) c.deref.ensures.value c.place_of-at.ensures.place) in
    let told_b = g.P.Ground.leads_told c.args.pages.now c.entries_at.new.pages c.entries_at.ensures.kept.leads told in
    let read = c.in-Ok.ensures.entries told in
    let below_row = row_below g.P.Ground c.args.pages.now c.args.file_no (c.args.level - 1) (c.args.level - 1 - 1) c.args.key c.args.entries.now.items c.place_of-at.result c.index-child.result.now step place c.index-child.ensures c.entries_at.new.pages c.in-Ok.below.items c.entries_at.ensures.kept read row in
    let told_c = g.P.Ground.leads_told c.entries_at.new.pages c.remove_among.new.pages c.remove_among.ensures.leads told_b in
    let becomes = c.in-Ok-true.ensures.removes told_b below_row in
    let known = pair_known g.P.Ground c.args.pages.now c.args.file_no (c.args.level - 1 - 1) c.args.key (c.args.level - 1) c.args.entries.now.items c.place_of-at.result c.saturating_sub-first.result c.index-child.result.now (record { left = c.index.result.now; right = c.index-2.result.now; thin_is_left = c.place_of-at.result == 0; level = c.args.level - 1; file_no = c.args.file_no })
    place c.index-child.ensures (omega (arith, c.saturating_sub-first.ensures)) refl c.requires.some c.index.ensures c.index-2.ensures row in
    let thin_read = read ∙ ap (λ (e : Entry). entries_on (g.P.Ground.image c.args.pages.now e.page.0)) (sym known.thin) in
    still_named g.P.Ground c.args.pages.now c.args.file_no (c.args.level - 1 - 1) c.args.key (record { left = c.index.result.now; right = c.index-2.result.now; thin_is_left = c.place_of-at.result == 0; level = c.args.level - 1; file_no = c.args.file_no }) (c.args.level - 1)
    (take c.saturating_sub-first.result c.args.entries.now.items) (drop (c.saturating_sub-first.result + 2) c.args.entries.now.items) c.args.entries.now.items step known.split.is row known.lacks
    c.entries_at.new.pages c.remove_among.new.pages c.in-Ok.below.items c.remove_among.new.entries.items c.entries_at.ensures.kept thin_read becomes (c.in-Err-spread.ensures.sound damage told_c)

pub returns-in-Ok-false-clause-way : goal.returns-in-Ok-false-clause-way
returns-in-Ok-false-clause-way g t c =
    let above : c.args.level - 1 ≢ 0 = λ none. omega (arith, c.requires.level, c.if-level-eq1.false) in
    let child = child_at c.args.key c.args.entries.now.items c.place_of-at.result c.index-child.result.now (c.place_of-at.ensures.is ∙ ap (place_in c.args.key) c.deref.ensures.value)
    (subst (λ (l : List Entry). c.place_of-at.result < length l) c.deref.ensures.value c.place_of-at.ensures.place.inside) c.index-child.ensures in
    λ told. subst (λ (e : Entry). IsWay (g.P.Ground.geometry c.args.pages.now) (g.P.Ground.image c.args.pages.now) c.args.file_no c.args.key (c.args.level - 1) (Some e.key) e.page.0) child
    (page_way g.P.Ground c.args.pages.now c.entries_at.new.pages c.args.file_no (c.args.level - 1) (Some c.index-child.result.now.key) c.index-child.result.now.page.0 c.args.key c.in-Ok.below.items above c.entries_at.ensures.kept c.in-Ok.ensures.entries
    (λ told_a. record { area = c.in-Ok.ensures.area; named = c.in-Ok.ensures.named told_a }) c.in-Ok-false.ensures.way told)

pub returns-then-len-most_entries-clause-way : goal.returns-then-len-most_entries-clause-way
returns-then-len-most_entries-clause-way g t c =
    let above : c.args.level - 1 ≢ 0 = λ none. omega (arith, c.requires.level, c.if-level-eq1.false) in
    let child = child_at c.args.key c.args.entries.now.items c.place_of-at.result c.index-child.result.now (c.place_of-at.ensures.is ∙ ap (place_in c.args.key) c.deref.ensures.value)
    (subst (λ (l : List Entry). c.place_of-at.result < length l) c.deref.ensures.value c.place_of-at.ensures.place.inside) c.index-child.ensures in
    on_ok_weaker c.write_child.result (λ written told. subst (λ (e : Entry). IsWay (g.P.Ground.geometry c.args.pages.now) (g.P.Ground.image c.args.pages.now) c.args.file_no c.args.key (c.args.level - 1) (Some e.key) e.page.0) child
    (page_way g.P.Ground c.args.pages.now c.entries_at.new.pages c.args.file_no (c.args.level - 1) (Some c.index-child.result.now.key) c.index-child.result.now.page.0 c.args.key c.in-Ok.below.items above c.entries_at.ensures.kept c.in-Ok.ensures.entries
    (λ told_a. record { area = c.in-Ok.ensures.area; named = c.in-Ok.ensures.named told_a }) c.in-Ok-true.ensures.way told)) c.write_child.ensures.written

pub returns-in-Ok-spread-clause-way : goal.returns-in-Ok-spread-clause-way
returns-in-Ok-spread-clause-way g t c =
    let above : c.args.level - 1 ≢ 0 = λ none. omega (arith, c.requires.level, c.if-level-eq1.false) in
    let child = child_at c.args.key c.args.entries.now.items c.place_of-at.result c.index-child.result.now (c.place_of-at.ensures.is ∙ ap (place_in c.args.key) c.deref.ensures.value)
    (subst (λ (l : List Entry). c.place_of-at.result < length l) c.deref.ensures.value c.place_of-at.ensures.place.inside) c.index-child.ensures in
    λ told. subst (λ (e : Entry). IsWay (g.P.Ground.geometry c.args.pages.now) (g.P.Ground.image c.args.pages.now) c.args.file_no c.args.key (c.args.level - 1) (Some e.key) e.page.0) child
    (page_way g.P.Ground c.args.pages.now c.entries_at.new.pages c.args.file_no (c.args.level - 1) (Some c.index-child.result.now.key) c.index-child.result.now.page.0 c.args.key c.in-Ok.below.items above c.entries_at.ensures.kept c.in-Ok.ensures.entries
    (λ told_a. record { area = c.in-Ok.ensures.area; named = c.in-Ok.ensures.named told_a }) c.in-Ok-true.ensures.way told)

pub returns-in-Err-clause-fault : goal.returns-in-Err-clause-fault
returns-in-Err-clause-fault g t c =
    let above : c.args.level - 1 ≢ 0 = λ none. omega (arith, c.requires.level, c.if-level-eq1.false) in
    let child = child_at c.args.key c.args.entries.now.items c.place_of-at.result c.index-child.result.now (c.place_of-at.ensures.is ∙ ap (place_in c.args.key) c.deref.ensures.value)
    (subst (λ (l : List Entry). c.place_of-at.result < length l) c.deref.ensures.value c.place_of-at.ensures.place.inside) c.index-child.ensures in
    λ told. inl (subst (λ (e : Entry). IsWayFault (g.P.Ground.geometry c.args.pages.now) (g.P.Ground.held c.args.pages.now) (g.P.Ground.image c.args.pages.now) c.args.file_no c.args.key (c.args.level - 1) (Some e.key) e.page.0 c.in-Err.fault) child
    (way_here (g.P.Ground.geometry c.args.pages.now) (g.P.Ground.held c.args.pages.now) (g.P.Ground.image c.args.pages.now) c.args.file_no c.args.key (c.args.level - 1) (Some c.index-child.result.now.key) c.index-child.result.now.page.0 c.in-Err.fault above (c.in-Err.ensures.fault told)))

pub returns-in-Err-remove_among-clause-fault : goal.returns-in-Err-remove_among-clause-fault
returns-in-Err-remove_among-clause-fault g t c =
    let above : c.args.level - 1 ≢ 0 = λ none. omega (arith, c.requires.level, c.if-level-eq1.false) in
    let child = child_at c.args.key c.args.entries.now.items c.place_of-at.result c.index-child.result.now (c.place_of-at.ensures.is ∙ ap (place_in c.args.key) c.deref.ensures.value)
    (subst (λ (l : List Entry). c.place_of-at.result < length l) c.deref.ensures.value c.place_of-at.ensures.place.inside) c.index-child.ensures in
    λ told. under_removal (g.P.Ground.geometry c.args.pages.now) (g.P.Ground.held c.args.pages.now) (g.P.Ground.image c.args.pages.now) (g.P.Ground.held c.remove_among.new.pages) (g.P.Ground.image c.remove_among.new.pages) c.args.file_no c.args.key (c.args.level - 1) c.args.entries.now.items c.index-child.result.now c.in-Err-remove_among.fault child
    (page_removal g.P.Ground c.args.pages.now c.entries_at.new.pages c.args.file_no (c.args.level - 1) (Some c.index-child.result.now.key) c.index-child.result.now.page.0 c.args.key c.in-Ok.below.items above c.entries_at.ensures.kept c.in-Ok.ensures.entries
    (λ told_a. record { area = c.in-Ok.ensures.area; named = c.in-Ok.ensures.named told_a }) (g.P.Ground.held c.remove_among.new.pages) (g.P.Ground.image c.remove_among.new.pages) c.in-Err-remove_among.fault c.in-Err-remove_among.ensures.fault told)

pub returns-in-Err-spread-clause-fault : goal.returns-in-Err-spread-clause-fault
returns-in-Err-spread-clause-fault g t c =
    let above : c.args.level - 1 ≢ 0 = λ none. omega (arith, c.requires.level, c.if-level-eq1.false) in
    let place = c.place_of-at.ensures.is ∙ ap (place_in c.args.key) c.deref.ensures.value in
    let inside : c.place_of-at.result < length c.args.entries.now.items = subst (λ (l : List Entry). c.place_of-at.result < length l) c.deref.ensures.value c.place_of-at.ensures.place.inside in
    let beside = beside_at c.args.key c.args.entries.now.items c.place_of-at.result c.saturating_sub-first.result c.index.result.now c.index-2.result.now place (omega (arith, c.saturating_sub-first.ensures)) (omega (arith, c.saturating_sub-first.ensures, c.requires.some, inside)) c.index.ensures c.index-2.ensures in
    λ told.
    let told_b = g.P.Ground.leads_told c.args.pages.now c.entries_at.new.pages c.entries_at.ensures.kept.leads told in
    let told_c = g.P.Ground.leads_told c.entries_at.new.pages c.remove_among.new.pages c.remove_among.ensures.leads told_b in
    let leads = g.P.Ground.leads_trans c.args.pages.now c.entries_at.new.pages c.remove_among.new.pages c.entries_at.ensures.kept.leads c.remove_among.ensures.leads in
    inr (inl (subst (λ (y : Geometry). IsEntryFault y (g.P.Ground.held c.spread.new.pages) (g.P.Ground.image c.spread.new.pages) c.args.file_no (c.args.level - 1) (beside_in c.args.key c.args.entries.now.items) c.in-Err-spread.fault) (g.P.Ground.leads_geometry c.args.pages.now c.remove_among.new.pages leads)
    (subst (λ (e : Entry). IsEntryFault (g.P.Ground.geometry c.remove_among.new.pages) (g.P.Ground.held c.spread.new.pages) (g.P.Ground.image c.spread.new.pages) c.args.file_no (c.args.level - 1) e c.in-Err-spread.fault) beside
    (entry_fault (g.P.Ground.geometry c.remove_among.new.pages) (g.P.Ground.held c.spread.new.pages) (g.P.Ground.image c.spread.new.pages) c.args.file_no (c.args.level - 1) (if c.place_of-at.result == 0 then c.index-2.result.now else c.index.result.now) c.in-Err-spread.fault above (c.in-Err-spread.ensures.fault told_c)))))

pub returns-in_err-still_held-in-Ok-true-clause-sound : goal.returns-in_err-still_held-in-Ok-true-clause-sound
returns-in_err-still_held-in-Ok-true-clause-sound g t c = if_err_handed c.from_residual.result _ c.in_err-still_held-in-Ok-true.field-0.0 c.from_residual.ensures.1 (λ damage told row.
    let step : suc (c.args.level - 1 - 1) ≡ c.args.level - 1 = omega (arith, c.requires.level, c.if-level-eq1.false) in
    let place = (subst (λ (l : List Entry). IsPlace c.args.key l c.place_of-at.result) c.deref.ensures.value c.place_of-at.ensures.place) in
    let told_b = g.P.Ground.leads_told c.args.pages.now c.entries_at.new.pages c.entries_at.ensures.kept.leads told in
    let read = c.in-Ok.ensures.entries told in
    let below_row = row_below g.P.Ground c.args.pages.now c.args.file_no (c.args.level - 1) (c.args.level - 1 - 1) c.args.key c.args.entries.now.items c.place_of-at.result c.index-child.result.now step place c.index-child.ensures c.entries_at.new.pages c.in-Ok.below.items c.entries_at.ensures.kept read row in
    let held = held_below g.P.Ground c.args.pages.now c.args.file_no (c.args.level - 1) (c.args.level - 1 - 1) c.args.key c.args.entries.now.items c.place_of-at.result c.index-child.result.now step place c.index-child.ensures c.entries_at.new.pages c.in-Ok.below.items c.entries_at.ensures.kept read
    c.remove_among.new.pages (take_out c.args.key) c.remove_among.new.entries.items row (c.in-Ok-true.ensures.removes told_b below_row) in
    true≢false (sym held ∙ c.in_err-still_held-in-Ok-true.ensures.gone.0))

pub returns-in_err-still_held-in-Ok-true-clause-fault : goal.returns-in_err-still_held-in-Ok-true-clause-fault
returns-in_err-still_held-in-Ok-true-clause-fault g t c = if_err_handed c.from_residual.result _ c.in_err-still_held-in-Ok-true.field-0.0 c.from_residual.ensures.1 (λ told.
    let above : c.args.level - 1 ≢ 0 = λ none. omega (arith, c.requires.level, c.if-level-eq1.false) in
    let child = child_at c.args.key c.args.entries.now.items c.place_of-at.result c.index-child.result.now (c.place_of-at.ensures.is ∙ ap (place_in c.args.key) c.deref.ensures.value)
    (subst (λ (l : List Entry). c.place_of-at.result < length l) c.deref.ensures.value c.place_of-at.ensures.place.inside) c.index-child.ensures in
    under_removal (g.P.Ground.geometry c.args.pages.now) (g.P.Ground.held c.args.pages.now) (g.P.Ground.image c.args.pages.now) (g.P.Ground.held c.remove_among.new.pages) (g.P.Ground.image c.remove_among.new.pages) c.args.file_no c.args.key (c.args.level - 1) c.args.entries.now.items c.index-child.result.now c.in_err-still_held-in-Ok-true.field-0.0 child
    (inr (page_gone g.P.Ground c.args.pages.now c.entries_at.new.pages c.args.file_no (c.args.level - 1) (Some c.index-child.result.now.key) c.index-child.result.now.page.0 c.args.key c.in-Ok.below.items above c.entries_at.ensures.kept c.in-Ok.ensures.entries
    (λ told_a. record { area = c.in-Ok.ensures.area; named = c.in-Ok.ensures.named told_a }) (g.P.Ground.held c.remove_among.new.pages) (g.P.Ground.image c.remove_among.new.pages) c.in_err-still_held-in-Ok-true.field-0.0 c.in_err-still_held-in-Ok-true.ensures.gone told)))

pub still_held-requires-clause-ready : goal.still_held-requires-clause-ready
still_held-requires-clause-ready g t c = g.P.Ground.leads_ready _ _ (g.P.Ground.leads_trans _ _ _ c.entries_at.ensures.kept.leads c.remove_among.ensures.leads) c.requires.ready

pub still_held-requires-clause-page : goal.still_held-requires-clause-page
still_held-requires-clause-page g t c = page_after g.P.Ground _ _ (g.P.Ground.leads_trans _ _ _ c.entries_at.ensures.kept.leads c.remove_among.ensures.leads) _ c.in-Ok.ensures.area

pub write_child-requires-clause-ready : goal.write_child-requires-clause-ready
write_child-requires-clause-ready g t c = g.P.Ground.leads_ready _ _ (g.P.Ground.leads_trans _ _ _ c.entries_at.ensures.kept.leads c.remove_among.ensures.leads) c.requires.ready

pub write_child-requires-clause-page : goal.write_child-requires-clause-page
write_child-requires-clause-page g t c = page_after g.P.Ground _ _ (g.P.Ground.leads_trans _ _ _ c.entries_at.ensures.kept.leads c.remove_among.ensures.leads) _ c.in-Ok.ensures.area

pub spread-requires-clause-ready : goal.spread-requires-clause-ready
spread-requires-clause-ready g t c = g.P.Ground.leads_ready _ _ (g.P.Ground.leads_trans _ _ _ c.entries_at.ensures.kept.leads c.remove_among.ensures.leads) c.requires.ready

pub returns-then-level-eq1-clause-leads : goal.returns-then-level-eq1-clause-leads
returns-then-level-eq1-clause-leads g t c = g.P.Ground.leads_refl _

pub returns-in-Ok-false-clause-leads : goal.returns-in-Ok-false-clause-leads
returns-in-Ok-false-clause-leads g t c = g.P.Ground.leads_trans _ _ _ c.entries_at.ensures.kept.leads c.remove_among.ensures.leads

pub returns-in-Err-remove_among-clause-leads : goal.returns-in-Err-remove_among-clause-leads
returns-in-Err-remove_among-clause-leads g t c = g.P.Ground.leads_trans _ _ _ c.entries_at.ensures.kept.leads c.remove_among.ensures.leads

pub returns-in-Err-remove_among-clause-cause : goal.returns-in-Err-remove_among-clause-cause
returns-in-Err-remove_among-clause-cause g t c = cause_after g.P.Ground _ _ c.entries_at.ensures.kept.leads c.remove_among.new.pages c.in-Err-remove_among.fault c.in-Err-remove_among.ensures.cause

pub returns-in_err-still_held-in-Ok-true-clause-leads : goal.returns-in_err-still_held-in-Ok-true-clause-leads
returns-in_err-still_held-in-Ok-true-clause-leads g t c = g.P.Ground.leads_trans _ _ _ c.entries_at.ensures.kept.leads c.remove_among.ensures.leads

pub returns-in_err-still_held-in-Ok-true-clause-cause : goal.returns-in_err-still_held-in-Ok-true-clause-cause
returns-in_err-still_held-in-Ok-true-clause-cause g t c = if_err_handed c.from_residual.result _ c.in_err-still_held-in-Ok-true.field-0.0 c.from_residual.ensures.1 (c.in_err-still_held-in-Ok-true.ensures.cause _ _)

pub returns-then-len-most_entries-clause-leads : goal.returns-then-len-most_entries-clause-leads
returns-then-len-most_entries-clause-leads g t c = g.P.Ground.leads_trans _ _ _ c.entries_at.ensures.kept.leads (g.P.Ground.leads_trans _ _ _ c.remove_among.ensures.leads c.write_child.ensures.leads)

pub returns-then-len-most_entries-clause-cause : goal.returns-then-len-most_entries-clause-cause
returns-then-len-most_entries-clause-cause g t c = cause_of g.P.Ground _ _ (g.P.Ground.leads_trans _ _ _ c.entries_at.ensures.kept.leads c.remove_among.ensures.leads) c.write_child.new.pages c.write_child.result c.write_child.ensures.cause

pub returns-in-Err-spread-clause-leads : goal.returns-in-Err-spread-clause-leads
returns-in-Err-spread-clause-leads g t c = g.P.Ground.leads_trans _ _ _ c.entries_at.ensures.kept.leads (g.P.Ground.leads_trans _ _ _ c.remove_among.ensures.leads c.spread.ensures.leads)

pub returns-in-Err-spread-clause-cause : goal.returns-in-Err-spread-clause-cause
returns-in-Err-spread-clause-cause g t c = cause_after g.P.Ground _ _ (g.P.Ground.leads_trans _ _ _ c.entries_at.ensures.kept.leads c.remove_among.ensures.leads) c.spread.new.pages c.in-Err-spread.fault c.in-Err-spread.ensures.cause

pub write_child-requires-clause-buffer : goal.write_child-requires-clause-buffer
write_child-requires-clause-buffer g t c =
    size_after g.P.Ground _ _ (g.P.Ground.leads_trans _ _ _ c.entries_at.ensures.kept.leads c.remove_among.ensures.leads) _
    (c.remove_among.auto.buffer ∙ c.requires.buffer)

pub spread-requires-clause-buffer : goal.spread-requires-clause-buffer
spread-requires-clause-buffer g t c =
    size_after g.P.Ground _ _ (g.P.Ground.leads_trans _ _ _ c.entries_at.ensures.kept.leads c.remove_among.ensures.leads) _
    (c.remove_among.auto.buffer ∙ c.requires.buffer)

pub returns-then-len-most_entries-clause-same : goal.returns-then-len-most_entries-clause-same
returns-then-len-most_entries-clause-same g t c = if_ok_both c.write_child.result _ _ _ (λ changed same items unchanged.
    replaced_same c.args.entries.now.items c.write_child.new.entries.items c.place_of-at.result c.index-child.result.now (record { key = first_key c.deref-then-len-most_entries.result.now; page = c.index-child.result.now.page }) None
    (subst (λ (l : List Entry). c.place_of-at.result < length l) c.deref.ensures.value c.place_of-at.ensures.place.inside) c.index-child.ensures items (kept_entry c.index-child.result.now (first_key c.deref-then-len-most_entries.result.now) (same unchanged)) refl) c.write_child.ensures.same c.write_child.ensures.items

pub returns-then-len-most_entries-clause-fewer : goal.returns-then-len-most_entries-clause-fewer
returns-then-len-most_entries-clause-fewer g t c = on_ok_weaker c.write_child.result (λ items.
    let once = replaced_once c.args.entries.now.items c.write_child.new.entries.items c.place_of-at.result (record { key = first_key c.deref-then-len-most_entries.result.now; page = c.index-child.result.now.page }) (subst (λ (l : List Entry). c.place_of-at.result < length l) c.deref.ensures.value c.place_of-at.ensures.place.inside) items in
    (omega (arith, once), omega (arith, once))) c.write_child.ensures.items

pub returns-then-len-most_entries-clause-sound : goal.returns-then-len-most_entries-clause-sound
returns-then-len-most_entries-clause-sound g t c = IfErr-weaker c.write_child.result _ _ (λ fault never damage told row. never damage) c.write_child.ensures.no_damage

pub returns-in-Err-clause-removes : goal.returns-in-Err-clause-removes
returns-in-Err-clause-removes g t c = tt

pub returns-in-Err-clause-same : goal.returns-in-Err-clause-same
returns-in-Err-clause-same g t c = tt

pub returns-in-Err-clause-fewer : goal.returns-in-Err-clause-fewer
returns-in-Err-clause-fewer g t c = tt

pub returns-in-Err-clause-free : goal.returns-in-Err-clause-free
returns-in-Err-clause-free g t c = tt

pub returns-in-Err-clause-gives : goal.returns-in-Err-clause-gives
returns-in-Err-clause-gives g t c = tt

pub returns-in-Err-clause-way : goal.returns-in-Err-clause-way
returns-in-Err-clause-way g t c = tt

pub returns-in-Err-clause-catalog : goal.returns-in-Err-clause-catalog
returns-in-Err-clause-catalog g t c = tt

pub returns-in-Err-clause-leaves : goal.returns-in-Err-clause-leaves
returns-in-Err-clause-leaves g t c = tt

pub returns-in-Err-clause-touches : goal.returns-in-Err-clause-touches
returns-in-Err-clause-touches g t c = tt

pub returns-in-Err-remove_among-clause-removes : goal.returns-in-Err-remove_among-clause-removes
returns-in-Err-remove_among-clause-removes g t c = tt

pub returns-in-Err-remove_among-clause-same : goal.returns-in-Err-remove_among-clause-same
returns-in-Err-remove_among-clause-same g t c = tt

pub returns-in-Err-remove_among-clause-fewer : goal.returns-in-Err-remove_among-clause-fewer
returns-in-Err-remove_among-clause-fewer g t c = tt

pub returns-in-Err-remove_among-clause-free : goal.returns-in-Err-remove_among-clause-free
returns-in-Err-remove_among-clause-free g t c = tt

pub returns-in-Err-remove_among-clause-gives : goal.returns-in-Err-remove_among-clause-gives
returns-in-Err-remove_among-clause-gives g t c = tt

pub returns-in-Err-remove_among-clause-way : goal.returns-in-Err-remove_among-clause-way
returns-in-Err-remove_among-clause-way g t c = tt

pub returns-in-Err-remove_among-clause-catalog : goal.returns-in-Err-remove_among-clause-catalog
returns-in-Err-remove_among-clause-catalog g t c = tt

pub returns-in-Err-remove_among-clause-leaves : goal.returns-in-Err-remove_among-clause-leaves
returns-in-Err-remove_among-clause-leaves g t c = tt

pub returns-in-Err-remove_among-clause-touches : goal.returns-in-Err-remove_among-clause-touches
returns-in-Err-remove_among-clause-touches g t c = tt

pub returns-in-Err-spread-clause-removes : goal.returns-in-Err-spread-clause-removes
returns-in-Err-spread-clause-removes g t c = tt

pub returns-in-Err-spread-clause-same : goal.returns-in-Err-spread-clause-same
returns-in-Err-spread-clause-same g t c = tt

pub returns-in-Err-spread-clause-fewer : goal.returns-in-Err-spread-clause-fewer
returns-in-Err-spread-clause-fewer g t c = tt

pub returns-in-Err-spread-clause-free : goal.returns-in-Err-spread-clause-free
returns-in-Err-spread-clause-free g t c = tt

pub returns-in-Err-spread-clause-gives : goal.returns-in-Err-spread-clause-gives
returns-in-Err-spread-clause-gives g t c = tt

pub returns-in-Err-spread-clause-way : goal.returns-in-Err-spread-clause-way
returns-in-Err-spread-clause-way g t c = tt

pub returns-in-Err-spread-clause-catalog : goal.returns-in-Err-spread-clause-catalog
returns-in-Err-spread-clause-catalog g t c = tt

pub returns-in-Err-spread-clause-leaves : goal.returns-in-Err-spread-clause-leaves
returns-in-Err-spread-clause-leaves g t c = tt

pub returns-in-Err-spread-clause-touches : goal.returns-in-Err-spread-clause-touches
returns-in-Err-spread-clause-touches g t c = tt

pub returns-in-Ok-false-clause-sound : goal.returns-in-Ok-false-clause-sound
returns-in-Ok-false-clause-sound g t c = tt

pub returns-in-Ok-false-clause-fault : goal.returns-in-Ok-false-clause-fault
returns-in-Ok-false-clause-fault g t c = tt

pub returns-in-Ok-false-clause-cause : goal.returns-in-Ok-false-clause-cause
returns-in-Ok-false-clause-cause g t c = tt

pub returns-in-Ok-spread-clause-sound : goal.returns-in-Ok-spread-clause-sound
returns-in-Ok-spread-clause-sound g t c = tt

pub returns-in-Ok-spread-clause-fault : goal.returns-in-Ok-spread-clause-fault
returns-in-Ok-spread-clause-fault g t c = tt

pub returns-in-Ok-spread-clause-cause : goal.returns-in-Ok-spread-clause-cause
returns-in-Ok-spread-clause-cause g t c = tt

pub returns-then-level-eq1-clause-sound : goal.returns-then-level-eq1-clause-sound
returns-then-level-eq1-clause-sound g t c = tt

pub returns-then-level-eq1-clause-fault : goal.returns-then-level-eq1-clause-fault
returns-then-level-eq1-clause-fault g t c = tt

pub returns-then-level-eq1-clause-cause : goal.returns-then-level-eq1-clause-cause
returns-then-level-eq1-clause-cause g t c = tt

pub returns-in_err-still_held-in-Ok-true-clause-removes : goal.returns-in_err-still_held-in-Ok-true-clause-removes
returns-in_err-still_held-in-Ok-true-clause-removes g t c =
    not_given c.from_residual.result _ c.in_err-still_held-in-Ok-true.field-0.0 c.from_residual.ensures.1

pub returns-in_err-still_held-in-Ok-true-clause-same : goal.returns-in_err-still_held-in-Ok-true-clause-same
returns-in_err-still_held-in-Ok-true-clause-same g t c = no_value c.from_residual.result _ c.in_err-still_held-in-Ok-true.field-0.0 c.from_residual.ensures.1

pub returns-in_err-still_held-in-Ok-true-clause-fewer : goal.returns-in_err-still_held-in-Ok-true-clause-fewer
returns-in_err-still_held-in-Ok-true-clause-fewer g t c = not_given c.from_residual.result _ c.in_err-still_held-in-Ok-true.field-0.0 c.from_residual.ensures.1

pub returns-in_err-still_held-in-Ok-true-clause-free : goal.returns-in_err-still_held-in-Ok-true-clause-free
returns-in_err-still_held-in-Ok-true-clause-free g t c = not_given c.from_residual.result _ c.in_err-still_held-in-Ok-true.field-0.0 c.from_residual.ensures.1

pub returns-in_err-still_held-in-Ok-true-clause-gives : goal.returns-in_err-still_held-in-Ok-true-clause-gives
returns-in_err-still_held-in-Ok-true-clause-gives g t c = not_given c.from_residual.result _ c.in_err-still_held-in-Ok-true.field-0.0 c.from_residual.ensures.1

pub returns-in_err-still_held-in-Ok-true-clause-way : goal.returns-in_err-still_held-in-Ok-true-clause-way
returns-in_err-still_held-in-Ok-true-clause-way g t c = not_given c.from_residual.result _ c.in_err-still_held-in-Ok-true.field-0.0 c.from_residual.ensures.1

pub returns-in_err-still_held-in-Ok-true-clause-catalog : goal.returns-in_err-still_held-in-Ok-true-clause-catalog
returns-in_err-still_held-in-Ok-true-clause-catalog g t c =
    not_given c.from_residual.result _ c.in_err-still_held-in-Ok-true.field-0.0 c.from_residual.ensures.1

pub returns-in_err-still_held-in-Ok-true-clause-leaves : goal.returns-in_err-still_held-in-Ok-true-clause-leaves
returns-in_err-still_held-in-Ok-true-clause-leaves g t c = not_given c.from_residual.result _ c.in_err-still_held-in-Ok-true.field-0.0 c.from_residual.ensures.1

pub returns-in_err-still_held-in-Ok-true-clause-touches : goal.returns-in_err-still_held-in-Ok-true-clause-touches
returns-in_err-still_held-in-Ok-true-clause-touches g t c =
    not_given c.from_residual.result _ c.in_err-still_held-in-Ok-true.field-0.0 c.from_residual.ensures.1

pub returns-in-Err-clause-cause : goal.returns-in-Err-clause-cause
returns-in-Err-clause-cause g t c = c.in-Err.ensures.cause

pub returns-in-Err-clause-leads : goal.returns-in-Err-clause-leads
returns-in-Err-clause-leads g t c = c.entries_at.ensures.kept.leads

pub entries_at-requires : goal.entries_at-requires
entries_at-requires g t c = c.requires.ready

pub remove_leaf-requires : goal.remove_leaf-requires
remove_leaf-requires g t c = subst (λ (l : List Entry). c.place_of-at.result < length l) c.deref.ensures.value c.place_of-at.ensures.place.inside

pub returns-then-level-eq1-clause-gives : goal.returns-then-level-eq1-clause-gives
returns-then-level-eq1-clause-gives g t c = same_gives g.P.Ground _ _ refl refl

pub returns-then-level-eq1-clause-touches : goal.returns-then-level-eq1-clause-touches
returns-then-level-eq1-clause-touches g t c = more_none _ _

pub returns-then-level-eq1-clause-catalog : goal.returns-then-level-eq1-clause-catalog
returns-then-level-eq1-clause-catalog g t c = refl

pub returns-then-level-eq1-clause-leaves : goal.returns-then-level-eq1-clause-leaves
returns-then-level-eq1-clause-leaves g t c = refl

pub returns-then-level-eq1-clause-free : goal.returns-then-level-eq1-clause-free
returns-then-level-eq1-clause-free g t c = le_from refl

pub returns-then-level-eq1-clause-way : goal.returns-then-level-eq1-clause-way
returns-then-level-eq1-clause-way g t c =
    λ told. way_ends (g.P.Ground.geometry c.args.pages.now) (g.P.Ground.image c.args.pages.now) c.args.file_no c.args.key c.args.level
    c.args.entries.now.items c.if-level-eq1.true

pub returns-then-level-eq1-clause-same : goal.returns-then-level-eq1-clause-same
returns-then-level-eq1-clause-same g t c =
    removed_same c.args.key c.place_of-at.result c.index-child.result.now c.args.entries.now.items c.remove_leaf.new.entries.items c.remove_leaf.result
    c.remove_leaf.ensures

pub returns-then-level-eq1-clause-fewer : goal.returns-then-level-eq1-clause-fewer
returns-then-level-eq1-clause-fewer g t c =
    removed_fewer c.args.key c.place_of-at.result c.index-child.result.now c.args.entries.now.items c.remove_leaf.new.entries.items c.remove_leaf.result
    (subst (λ (l : List Entry). c.place_of-at.result < length l) c.deref.ensures.value c.place_of-at.ensures.place.inside) c.remove_leaf.ensures

pub returns-in-Ok-false-clause-free : goal.returns-in-Ok-false-clause-free
returns-in-Ok-false-clause-free g t c = free_on _ _ _ _ (ap (λ (f : Area → ℕ). f Page) c.entries_at.ensures.kept.free) (le_from refl) c.in-Ok-false.ensures.free

pub returns-in-Ok-false-clause-leaves : goal.returns-in-Ok-false-clause-leaves
returns-in-Ok-false-clause-leaves g t c = c.in-Ok-false.ensures.leaves ∙ ap (λ (f : Area → ℕ). f Segment) c.entries_at.ensures.kept.free

pub returns-in-Ok-false-clause-touches : goal.returns-in-Ok-false-clause-touches
returns-in-Ok-false-clause-touches g t c = touched_below _ _ _ c.args.level c.entries_at.ensures.kept.touched c.in-Ok-false.ensures.touches

pub returns-in-Ok-false-clause-gives : goal.returns-in-Ok-false-clause-gives
returns-in-Ok-false-clause-gives g t c = gives_on g.P.Ground _ _ _ (keeps_gives g.P.Ground _ _ c.entries_at.ensures.kept) c.in-Ok-false.ensures.gives

pub returns-in-Ok-false-clause-catalog : goal.returns-in-Ok-false-clause-catalog
returns-in-Ok-false-clause-catalog g t c = c.in-Ok-false.ensures.catalog ∙ ap (λ (f : ℕ → List ℕ). f catalog_no) c.entries_at.ensures.kept.images

pub returns-in-Ok-false-clause-same : goal.returns-in-Ok-false-clause-same
returns-in-Ok-false-clause-same g t c = λ unchanged. refl

pub returns-in-Ok-false-clause-fewer : goal.returns-in-Ok-false-clause-fewer
returns-in-Ok-false-clause-fewer g t c = (le_from refl, more_none _ 1)

pub returns-in-Ok-spread-clause-same : goal.returns-in-Ok-spread-clause-same
returns-in-Ok-spread-clause-same g t c = λ unchanged. absurd (true≢false unchanged)

pub returns-in-Ok-spread-clause-gives : goal.returns-in-Ok-spread-clause-gives
returns-in-Ok-spread-clause-gives g t c =
    gives_on g.P.Ground _ _ _ (keeps_gives g.P.Ground _ _ c.entries_at.ensures.kept)
    (gives_on g.P.Ground _ _ _ c.in-Ok-true.ensures.gives c.in-Ok-spread.ensures.gives)

pub returns-in-Ok-spread-clause-free : goal.returns-in-Ok-spread-clause-free
returns-in-Ok-spread-clause-free g t c =
    free_on _ _ _ _ (ap (λ (f : Area → ℕ). f Page) c.entries_at.ensures.kept.free) c.in-Ok-true.ensures.free c.in-Ok-spread.ensures.free

pub returns-in-Ok-spread-clause-leaves : goal.returns-in-Ok-spread-clause-leaves
returns-in-Ok-spread-clause-leaves g t c =
    c.in-Ok-spread.ensures.changes.leaves ∙ c.in-Ok-true.ensures.leaves ∙ ap (λ (f : Area → ℕ). f Segment) c.entries_at.ensures.kept.free

pub returns-in-Ok-spread-clause-catalog : goal.returns-in-Ok-spread-clause-catalog
returns-in-Ok-spread-clause-catalog g t c =
    c.in-Ok-spread.ensures.catalog ∙ c.in-Ok-true.ensures.catalog ∙ ap (λ (f : ℕ → List ℕ). f catalog_no) c.entries_at.ensures.kept.images

pub returns-in-Ok-spread-clause-touches : goal.returns-in-Ok-spread-clause-touches
returns-in-Ok-spread-clause-touches g t c =
    touched_here _ _ _ _ 2 c.args.level (two_levels c.args.level c.requires.level c.if-level-eq1.false) (le_from refl) c.entries_at.ensures.kept.touched
    c.in-Ok-true.ensures.touches c.in-Ok-spread.ensures.touches

pub returns-in-Ok-spread-clause-fewer : goal.returns-in-Ok-spread-clause-fewer
returns-in-Ok-spread-clause-fewer g t c =
    replaced_pair c.args.entries.now.items c.replace_two.new.entries.items c.saturating_sub-first.result c.in-Ok-spread.left c.in-Ok-spread.right
    (second_inside _ _ _ c.saturating_sub-first.ensures (subst (λ (l : List Entry). c.place_of-at.result < length l) c.deref.ensures.value
    c.place_of-at.ensures.place.inside) c.requires.some) c.replace_two.ensures

pub index-requires : goal.index-requires
index-requires g t c =
    subst (λ (n : ℕ). c.saturating_sub-first.result < n) (sym c.args.entries.now.ok.0)
    (first_inside _ _ _ c.saturating_sub-first.ensures (subst (λ (l : List Entry). c.place_of-at.result < length l) c.deref.ensures.value
    c.place_of-at.ensures.place.inside))

pub index-requires-2 : goal.index-requires-2
index-requires-2 g t c =
    subst (λ (n : ℕ). c.saturating_sub-first.result + 1 < n) (sym c.args.entries.now.ok.0)
    (second_inside _ _ _ c.saturating_sub-first.ensures (subst (λ (l : List Entry). c.place_of-at.result < length l) c.deref.ensures.value
    c.place_of-at.ensures.place.inside) c.requires.some)

pub replace_two-requires : goal.replace_two-requires
replace_two-requires g t c =
    second_inside _ _ _ c.saturating_sub-first.ensures (subst (λ (l : List Entry). c.place_of-at.result < length l) c.deref.ensures.value
    c.place_of-at.ensures.place.inside) c.requires.some

pub returns-then-len-most_entries-clause-gives : goal.returns-then-len-most_entries-clause-gives
returns-then-len-most_entries-clause-gives g t c =
    on_ok_weaker c.write_child.result (λ gives. gives_on g.P.Ground _ _ _ (keeps_gives g.P.Ground _ _ c.entries_at.ensures.kept)
    (gives_on g.P.Ground _ _ _ c.in-Ok-true.ensures.gives gives)) c.write_child.ensures.gives

pub returns-then-len-most_entries-clause-free : goal.returns-then-len-most_entries-clause-free
returns-then-len-most_entries-clause-free g t c =
    on_ok_weaker c.write_child.result (λ free. free_on _ _ _ _ (ap (λ (f : Area → ℕ). f Page) c.entries_at.ensures.kept.free) c.in-Ok-true.ensures.free
    (le_from (ap (λ (f : Area → ℕ). f Page) free))) c.write_child.ensures.free

pub returns-then-len-most_entries-clause-leaves : goal.returns-then-len-most_entries-clause-leaves
returns-then-len-most_entries-clause-leaves g t c =
    on_ok_weaker c.write_child.result (λ free. ap (λ (f : Area → ℕ). f Segment) free ∙ c.in-Ok-true.ensures.leaves ∙ ap (λ (f : Area → ℕ). f Segment)
    c.entries_at.ensures.kept.free) c.write_child.ensures.free

pub returns-then-len-most_entries-clause-catalog : goal.returns-then-len-most_entries-clause-catalog
returns-then-len-most_entries-clause-catalog g t c =
    on_ok_weaker c.write_child.result (λ catalog. catalog ∙ c.in-Ok-true.ensures.catalog ∙ ap (λ (f : ℕ → List ℕ). f catalog_no)
    c.entries_at.ensures.kept.images) c.write_child.ensures.catalog

pub returns-then-len-most_entries-clause-touches : goal.returns-then-len-most_entries-clause-touches
returns-then-len-most_entries-clause-touches g t c =
    on_ok_weaker c.write_child.result (λ touches. touched_here _ _ _ _ 1 c.args.level (two_levels c.args.level c.requires.level c.if-level-eq1.false)
    (more_none 1 1) c.entries_at.ensures.kept.touched c.in-Ok-true.ensures.touches touches) c.write_child.ensures.touches

pub returns-then-len-most_entries-clause-fault : goal.returns-then-len-most_entries-clause-fault
returns-then-len-most_entries-clause-fault g t c =
    IfErr-weaker c.write_child.result _ _ (λ fault never told. inl
    (other_under (g.P.Ground.geometry c.args.pages.now) (g.P.Ground.held c.args.pages.now) (g.P.Ground.image c.args.pages.now) c.args.file_no c.args.key
    (c.args.level - 1) c.args.entries.now.items fault never)) c.write_child.ensures.no_damage

pub write_child-requires-clause-at : goal.write_child-requires-clause-at
write_child-requires-clause-at g t c = subst (λ (l : List Entry). c.place_of-at.result < length l) c.deref.ensures.value c.place_of-at.ensures.place.inside

pub write_child-requires-clause-level : goal.write_child-requires-clause-level
write_child-requires-clause-level g t c = level_below c.args.level c.requires.level c.if-level-eq1.false

pub spread-requires-clause-level : goal.spread-requires-clause-level
spread-requires-clause-level g t c = level_below c.args.level c.requires.level c.if-level-eq1.false

pub write_child-requires-clause-held : goal.write_child-requires-clause-held
write_child-requires-clause-held g t c = c.in_ok-still_held-in-Ok-true.ensures.held

pub write_child-requires-clause-room : goal.write_child-requires-clause-room
write_child-requires-clause-room g t c =
    subst (λ (l : List Entry). length l ≤ most_entries (g.P.Ground.geometry c.remove_among.new.pages).page_size)
    (sym c.deref-then-len-most_entries.ensures.value) (room_after g.P.Ground _ _
    (g.P.Ground.leads_trans _ _ _ c.entries_at.ensures.kept.leads c.remove_among.ensures.leads) _
    (less_on _ _ _ c.in-Ok-true.ensures.fewer.0 c.in-Ok.ensures.many))

pub write_child-requires-clause-some : goal.write_child-requires-clause-some
write_child-requires-clause-some g t c =
    subst (λ (l : List Entry). 1 ≤ length l) (sym c.deref-then-len-most_entries.ensures.value)
    (subst (λ (n : ℕ). 1 ≤ n) (c.len.ensures ∙ c.remove_among.new.entries.ok.0)
    (enough_some (g.P.Ground.geometry c.args.pages.now) _ _ (c.remove_among.auto.buffer ∙ c.requires.buffer) c.most_entries.ensures
    c.if-len-most_entries.true))

pub spread-requires-clause-many : goal.spread-requires-clause-many
spread-requires-clause-many g t c =
    room_after g.P.Ground _ _ (g.P.Ground.leads_trans _ _ _ c.entries_at.ensures.kept.leads c.remove_among.ensures.leads) _
    (less_on _ _ _ c.in-Ok-true.ensures.fewer.0 c.in-Ok.ensures.many)

pub spread-requires-clause-page : goal.spread-requires-clause-page
spread-requires-clause-page g t c =
    subst (λ (e : Entry). IsFilesPage (g.P.Ground.geometry c.remove_among.new.pages) e.page.0)
    (sym (thin_is c.args.entries.now.items c.place_of-at.result c.saturating_sub-first.result c.index-child.result.now
    (record {
      left = c.index.result.now;
      right = c.index-2.result.now;
      thin_is_left = c.place_of-at.result == 0;
      level = c.args.level - 1;
      file_no =
          c.args.file_no;
    }) c.saturating_sub-first.ensures refl (subst (λ (l : List Entry). c.place_of-at.result < length l) c.deref.ensures.value
    c.place_of-at.ensures.place.inside) c.index-child.ensures c.index.ensures c.index-2.ensures))
    (page_after g.P.Ground _ _ (g.P.Ground.leads_trans _ _ _ c.entries_at.ensures.kept.leads c.remove_among.ensures.leads) _ c.in-Ok.ensures.area)

pub spread-requires-clause-held : goal.spread-requires-clause-held
spread-requires-clause-held g t c =
    subst (λ (e : Entry). g.P.Ground.held c.remove_among.new.pages e.page.0 ≡ true)
    (sym (thin_is c.args.entries.now.items c.place_of-at.result c.saturating_sub-first.result c.index-child.result.now
    (record {
      left = c.index.result.now;
      right = c.index-2.result.now;
      thin_is_left = c.place_of-at.result == 0;
      level = c.args.level - 1;
      file_no =
          c.args.file_no;
    }) c.saturating_sub-first.ensures refl (subst (λ (l : List Entry). c.place_of-at.result < length l) c.deref.ensures.value
    c.place_of-at.ensures.place.inside) c.index-child.ensures c.index.ensures c.index-2.ensures)) c.in_ok-still_held-in-Ok-true.ensures.held

pub returns-then-level-eq1-clause-lone : goal.returns-then-level-eq1-clause-lone
returns-then-level-eq1-clause-lone g t c =
    let inside = subst (λ (l : List Entry). c.place_of-at.result < length l) c.deref.ensures.value c.place_of-at.ensures.place.inside in
    leaf_lone c.args.key c.place_of-at.result c.index-child.result.now c.args.entries.now.items c.remove_leaf.new.entries.items c.remove_leaf.result inside c.requires.some
    (removed_fewer c.args.key c.place_of-at.result c.index-child.result.now c.args.entries.now.items c.remove_leaf.new.entries.items c.remove_leaf.result inside c.remove_leaf.ensures).1
    c.remove_leaf.ensures

pub returns-in-Ok-false-clause-lone : goal.returns-in-Ok-false-clause-lone
returns-in-Ok-false-clause-lone g t c = as_many _ _ (le_from refl) c.requires.some

pub returns-then-len-most_entries-clause-lone : goal.returns-then-len-most_entries-clause-lone
returns-then-len-most_entries-clause-lone g t c = on_ok_weaker c.write_child.result (λ items.
    as_many _ _ (omega (arith, replaced_once c.args.entries.now.items c.write_child.new.entries.items c.place_of-at.result (record { key = first_key c.deref-then-len-most_entries.result.now; page = c.index-child.result.now.page }) (subst (λ (l : List Entry). c.place_of-at.result < length l) c.deref.ensures.value c.place_of-at.ensures.place.inside) items)) c.requires.some) c.write_child.ensures.items

pub returns-in-Ok-spread-clause-lone : goal.returns-in-Ok-spread-clause-lone
returns-in-Ok-spread-clause-lone g t c =
    let second = second_inside _ _ _ c.saturating_sub-first.ensures (subst (λ (l : List Entry). c.place_of-at.result < length l) c.deref.ensures.value c.place_of-at.ensures.place.inside) c.requires.some in
    pair_lone c.saturating_sub-first.result c.index.result.now c.in-Ok-spread.left c.in-Ok-spread.right c.args.entries.now.items c.replace_two.new.entries.items second
    (replaced_pair c.args.entries.now.items c.replace_two.new.entries.items c.saturating_sub-first.result c.in-Ok-spread.left c.in-Ok-spread.right second c.replace_two.ensures).1
    c.index.ensures c.in-Ok-spread.ensures.page c.replace_two.ensures

pub returns-in-Err-clause-lone : goal.returns-in-Err-clause-lone
returns-in-Err-clause-lone g t c = tt

pub returns-in-Err-remove_among-clause-lone : goal.returns-in-Err-remove_among-clause-lone
returns-in-Err-remove_among-clause-lone g t c = tt

pub returns-in-Err-spread-clause-lone : goal.returns-in-Err-spread-clause-lone
returns-in-Err-spread-clause-lone g t c = tt

pub returns-in_err-still_held-in-Ok-true-clause-lone : goal.returns-in_err-still_held-in-Ok-true-clause-lone
returns-in_err-still_held-in-Ok-true-clause-lone g t c = not_given c.from_residual.result _ c.in_err-still_held-in-Ok-true.field-0.0 c.from_residual.ensures.1
