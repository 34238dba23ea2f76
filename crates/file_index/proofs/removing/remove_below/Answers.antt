use Rattle.std.proofs.Common.{◌≡◌, ◌≢◌, None, inl, inr, ◌-◌, ◌∙◌, suc, sym, List, subst, arith, true≢false, ◌≤◌, ◌<◌, ℕ, length, ap, refl}
use Rattle.ex_base.proofs.Results.{if_err_handed}
use Rattle.file_index.specs.declared.Entry.{Entry}
use Rattle.file_index.specs.Edits.{take_out}
use Rattle.file_index.specs.Nodes.{IsWritten}
use Rattle.file_index.proofs.Blame.{way_here, other_from}
use Rattle.file_index.proofs.Ways.{page_way, page_gone, page_removal, root_way, root_fault, root_removal}
use Rattle.file_index.proofs.Tops.{root_read, row_top, held_top, same_top, written_top, lowered_top, single}
use Rattle.ex_base.proofs.Handed.{cause_after, no_value, not_given, handed_after}
use Rattle.file_index.proofs.LaterStates.{page_after, room_after, size_after}
use Rattle.std.proofs.lemmas.Grind.{common_steps}
use Rattle.ex_base.specs.Area.{catalog_no}
use Rattle.ex_base.specs.declared.names.Area.{Area}
use Rattle.ex_base.specs.declared.names.Area.TheVariants.{Page, Segment}
use Rattle.file_index.specs.IndexPage.{most_entries}
use Rattle.file_index.proofs.Growing.{shrinks_same, shrinks_one}
use Rattle.file_index.specs.Damage.{stays}
use Rattle.file_index.proofs.Lone.{falls_to}
use Rattle.file_index.proofs.Rooms.{left_some}
use Rattle.file_index.proofs.Chains.{keeps_gives, same_gives, given_gives, gives_on, more_none, less_on, le_from, free_on, touched_top, touched_level}
use Rattle.file_index.proofs.removing.remove_below.Goals as goal

pub returns-in-Err-clause-cause : goal.returns-in-Err-clause-cause
returns-in-Err-clause-cause g c = c.in-Err.ensures.cause _ _

pub returns-in-Err-remove_among-clause-sound : goal.returns-in-Err-remove_among-clause-sound
returns-in-Err-remove_among-clause-sound g c = λ damage told has.
    let step : suc (c.args.index.now.level - 1) ≡ c.args.index.now.level = omega (arith, c.requires.level) in
    let told_b = g.P.Ground.leads_told c.args.pages.now c.entries_at.new.pages c.entries_at.ensures.kept.leads told in
    let read = c.in-Ok-entries_at.ensures.entries told in
    let row = row_top g.P.Ground c.args.pages.now c.args.index.now c.args.root (c.args.index.now.level - 1) c.requires.root step has c.entries_at.new.pages c.in-Ok-entries_at.entries.items c.entries_at.ensures.kept read in
    c.in-Err-remove_among.ensures.sound damage told_b row

pub returns-in-Ok-false-clause-removes : goal.returns-in-Ok-false-clause-removes
returns-in-Ok-false-clause-removes g c = λ told has.
    let step : suc (c.args.index.now.level - 1) ≡ c.args.index.now.level = omega (arith, c.requires.level) in
    let told_b = g.P.Ground.leads_told c.args.pages.now c.entries_at.new.pages c.entries_at.ensures.kept.leads told in
    let read = c.in-Ok-entries_at.ensures.entries told in
    let row = row_top g.P.Ground c.args.pages.now c.args.index.now c.args.root (c.args.index.now.level - 1) c.requires.root step has c.entries_at.new.pages c.in-Ok-entries_at.entries.items c.entries_at.ensures.kept read in
    let becomes = c.in-Ok-false.ensures.removes told_b row in
    same_top g.P.Ground c.args.pages.now c.args.index.now c.args.root (c.args.index.now.level - 1) c.requires.root step has c.entries_at.new.pages c.in-Ok-entries_at.entries.items c.entries_at.ensures.kept read c.remove_among.new.pages (take_out c.args.key.0) c.remove_among.new.entries.items becomes (c.in-Ok-false.ensures.same c.in-Ok-false.field-0-test)

pub returns-then-len-gt1-clause-removes : goal.returns-then-len-gt1-clause-removes
returns-then-len-gt1-clause-removes g c = λ told has.
    let step : suc (c.args.index.now.level - 1) ≡ c.args.index.now.level = omega (arith, c.requires.level) in
    let told_b = g.P.Ground.leads_told c.args.pages.now c.entries_at.new.pages c.entries_at.ensures.kept.leads told in
    let read = c.in-Ok-entries_at.ensures.entries told in
    let row = row_top g.P.Ground c.args.pages.now c.args.index.now c.args.root (c.args.index.now.level - 1) c.requires.root step has c.entries_at.new.pages c.in-Ok-entries_at.entries.items c.entries_at.ensures.kept read in
    let told_c = g.P.Ground.leads_told c.entries_at.new.pages c.remove_among.new.pages c.remove_among.ensures.leads told_b in
    let becomes = c.in-Ok-true.ensures.removes told_b row in
    written_top g.P.Ground c.args.pages.now c.args.index.now c.args.root (c.args.index.now.level - 1) c.requires.root step has c.entries_at.new.pages c.in-Ok-entries_at.entries.items c.entries_at.ensures.kept read c.remove_among.new.pages (take_out c.args.key.0) c.remove_among.new.entries.items becomes c.put_index.new.pages c.in_ok-put_index.ensures.changes
    (subst (λ (l : List Entry). IsWritten g.P.Ground c.put_index.new.pages c.args.root.0 c.args.index.now.level c.args.index.now.file_no l) c.deref.ensures.value (c.in_ok-put_index.ensures.written told_c)) (omega (arith, c.if-len-gt1.true))

pub returns-clause-removes : goal.returns-clause-removes
returns-clause-removes g c = λ told has.
    let step : suc (c.args.index.now.level - 1) ≡ c.args.index.now.level = omega (arith, c.requires.level) in
    let told_b = g.P.Ground.leads_told c.args.pages.now c.entries_at.new.pages c.entries_at.ensures.kept.leads told in
    let read = c.in-Ok-entries_at.ensures.entries told in
    let row = row_top g.P.Ground c.args.pages.now c.args.index.now c.args.root (c.args.index.now.level - 1) c.requires.root step has c.entries_at.new.pages c.in-Ok-entries_at.entries.items c.entries_at.ensures.kept read in
    let becomes = c.in-Ok-true.ensures.removes told_b row in
    lowered_top g.P.Ground c.args.pages.now c.args.index.now c.args.root (c.args.index.now.level - 1) c.requires.root step has c.entries_at.new.pages c.in-Ok-entries_at.entries.items c.entries_at.ensures.kept read c.remove_among.new.pages (take_out c.args.key.0) c.remove_among.new.entries.items becomes c.give_page.new.self c.index.result.now
    (single c.remove_among.new.entries.items c.index.result.now (omega (arith, c.if-len-gt1.false, c.in-Ok-true.ensures.fewer, c.in-Ok-entries_at.ensures.few)) c.index.ensures) c.in_ok-give_page.ensures.given c.give_page.ensures.leads

pub returns-in-Ok-false-clause-way : goal.returns-in-Ok-false-clause-way
returns-in-Ok-false-clause-way g c =
    let above : c.args.index.now.level ≢ 0 = λ none. omega (arith, c.requires.level) in
    λ told. root_way (g.P.Ground.geometry c.args.pages.now) (g.P.Ground.image c.args.pages.now) c.args.index.now.file_no c.args.key.0 c.args.index.now.level c.args.index.now.root c.args.root c.requires.root
    (page_way g.P.Ground c.args.pages.now c.entries_at.new.pages c.args.index.now.file_no c.args.index.now.level None c.args.root.0 c.args.key.0 c.in-Ok-entries_at.entries.items above c.entries_at.ensures.kept c.in-Ok-entries_at.ensures.entries
    (λ told_a. record { area = c.in-Ok-entries_at.ensures.area; named = c.in-Ok-entries_at.ensures.named told_a }) c.in-Ok-false.ensures.way told)

pub returns-then-len-gt1-clause-way : goal.returns-then-len-gt1-clause-way
returns-then-len-gt1-clause-way g c =
    let above : c.args.index.now.level ≢ 0 = λ none. omega (arith, c.requires.level) in
    λ told. root_way (g.P.Ground.geometry c.args.pages.now) (g.P.Ground.image c.args.pages.now) c.args.index.now.file_no c.args.key.0 c.args.index.now.level c.args.index.now.root c.args.root c.requires.root
    (page_way g.P.Ground c.args.pages.now c.entries_at.new.pages c.args.index.now.file_no c.args.index.now.level None c.args.root.0 c.args.key.0 c.in-Ok-entries_at.entries.items above c.entries_at.ensures.kept c.in-Ok-entries_at.ensures.entries
    (λ told_a. record { area = c.in-Ok-entries_at.ensures.area; named = c.in-Ok-entries_at.ensures.named told_a }) c.in-Ok-true.ensures.way told)

pub returns-clause-way : goal.returns-clause-way
returns-clause-way g c =
    let above : c.args.index.now.level ≢ 0 = λ none. omega (arith, c.requires.level) in
    λ told. root_way (g.P.Ground.geometry c.args.pages.now) (g.P.Ground.image c.args.pages.now) c.args.index.now.file_no c.args.key.0 c.args.index.now.level c.args.index.now.root c.args.root c.requires.root
    (page_way g.P.Ground c.args.pages.now c.entries_at.new.pages c.args.index.now.file_no c.args.index.now.level None c.args.root.0 c.args.key.0 c.in-Ok-entries_at.entries.items above c.entries_at.ensures.kept c.in-Ok-entries_at.ensures.entries
    (λ told_a. record { area = c.in-Ok-entries_at.ensures.area; named = c.in-Ok-entries_at.ensures.named told_a }) c.in-Ok-true.ensures.way told)

pub returns-in-Err-entries_at-clause-fault : goal.returns-in-Err-entries_at-clause-fault
returns-in-Err-entries_at-clause-fault g c =
    let above : c.args.index.now.level ≢ 0 = λ none. omega (arith, c.requires.level) in
    λ told. inl (root_fault (g.P.Ground.geometry c.args.pages.now) (g.P.Ground.held c.args.pages.now) (g.P.Ground.image c.args.pages.now) c.args.index.now.file_no c.args.key.0 c.args.index.now.level c.args.index.now.root c.args.root c.requires.root c.in-Err-entries_at.fault
    (way_here (g.P.Ground.geometry c.args.pages.now) (g.P.Ground.held c.args.pages.now) (g.P.Ground.image c.args.pages.now) c.args.index.now.file_no c.args.key.0 c.args.index.now.level None c.args.root.0 c.in-Err-entries_at.fault above (c.in-Err-entries_at.ensures.fault told)))

pub returns-in-Err-remove_among-clause-fault : goal.returns-in-Err-remove_among-clause-fault
returns-in-Err-remove_among-clause-fault g c =
    let above : c.args.index.now.level ≢ 0 = λ none. omega (arith, c.requires.level) in
    λ told. root_removal (g.P.Ground.geometry c.args.pages.now) (g.P.Ground.held c.args.pages.now) (g.P.Ground.image c.args.pages.now) c.args.index.now.file_no c.args.key.0 c.args.index.now.level c.args.index.now.root c.args.root c.requires.root (g.P.Ground.held c.remove_among.new.pages) (g.P.Ground.image c.remove_among.new.pages) c.in-Err-remove_among.fault
    (page_removal g.P.Ground c.args.pages.now c.entries_at.new.pages c.args.index.now.file_no c.args.index.now.level None c.args.root.0 c.args.key.0 c.in-Ok-entries_at.entries.items above c.entries_at.ensures.kept c.in-Ok-entries_at.ensures.entries
    (λ told_a. record { area = c.in-Ok-entries_at.ensures.area; named = c.in-Ok-entries_at.ensures.named told_a }) (g.P.Ground.held c.remove_among.new.pages) (g.P.Ground.image c.remove_among.new.pages) c.in-Err-remove_among.fault c.in-Err-remove_among.ensures.fault told)

pub returns-in_err-still_held-in-Ok-true-clause-sound : goal.returns-in_err-still_held-in-Ok-true-clause-sound
returns-in_err-still_held-in-Ok-true-clause-sound g c = if_err_handed c.from_residual.result _ c.in_err-still_held-in-Ok-true.field-0.0 c.from_residual.ensures.1 (λ damage told has.
    let step : suc (c.args.index.now.level - 1) ≡ c.args.index.now.level = omega (arith, c.requires.level) in
    let told_b = g.P.Ground.leads_told c.args.pages.now c.entries_at.new.pages c.entries_at.ensures.kept.leads told in
    let read = c.in-Ok-entries_at.ensures.entries told in
    let row = row_top g.P.Ground c.args.pages.now c.args.index.now c.args.root (c.args.index.now.level - 1) c.requires.root step has c.entries_at.new.pages c.in-Ok-entries_at.entries.items c.entries_at.ensures.kept read in
    let held = held_top g.P.Ground c.args.pages.now c.args.index.now c.args.root (c.args.index.now.level - 1) c.requires.root step has c.entries_at.new.pages c.in-Ok-entries_at.entries.items c.entries_at.ensures.kept read
    c.remove_among.new.pages (take_out c.args.key.0) c.remove_among.new.entries.items (c.in-Ok-true.ensures.removes told_b row) in
    true≢false (sym held ∙ c.in_err-still_held-in-Ok-true.ensures.gone.0))

pub returns-in_err-still_held-in-Ok-true-clause-fault : goal.returns-in_err-still_held-in-Ok-true-clause-fault
returns-in_err-still_held-in-Ok-true-clause-fault g c = if_err_handed c.from_residual.result _ c.in_err-still_held-in-Ok-true.field-0.0 c.from_residual.ensures.1 (λ told.
    let above : c.args.index.now.level ≢ 0 = λ none. omega (arith, c.requires.level) in
    root_removal (g.P.Ground.geometry c.args.pages.now) (g.P.Ground.held c.args.pages.now) (g.P.Ground.image c.args.pages.now) c.args.index.now.file_no c.args.key.0 c.args.index.now.level c.args.index.now.root c.args.root c.requires.root (g.P.Ground.held c.remove_among.new.pages) (g.P.Ground.image c.remove_among.new.pages) c.in_err-still_held-in-Ok-true.field-0.0
    (inr (page_gone g.P.Ground c.args.pages.now c.entries_at.new.pages c.args.index.now.file_no c.args.index.now.level None c.args.root.0 c.args.key.0 c.in-Ok-entries_at.entries.items above c.entries_at.ensures.kept c.in-Ok-entries_at.ensures.entries
    (λ told_a. record { area = c.in-Ok-entries_at.ensures.area; named = c.in-Ok-entries_at.ensures.named told_a }) (g.P.Ground.held c.remove_among.new.pages) (g.P.Ground.image c.remove_among.new.pages) c.in_err-still_held-in-Ok-true.field-0.0 c.in_err-still_held-in-Ok-true.ensures.gone told)))

pub returns-in-Err-entries_at-clause-sound : goal.returns-in-Err-entries_at-clause-sound
returns-in-Err-entries_at-clause-sound g c = λ damage told has.
    let step : suc (c.args.index.now.level - 1) ≡ c.args.index.now.level = omega (arith, c.requires.level) in
    root_read g.P.Ground c.args.pages.now c.args.index.now c.args.root (c.args.index.now.level - 1) c.requires.root step has (c.in-Err-entries_at.ensures.sound damage told)

pub remove_among-requires-clause-ready : goal.remove_among-requires-clause-ready
remove_among-requires-clause-ready g c = g.P.Ground.leads_ready _ _ c.entries_at.ensures.kept.leads c.requires.ready

pub remove_among-requires-clause-many : goal.remove_among-requires-clause-many
remove_among-requires-clause-many g c = room_after g.P.Ground _ _ c.entries_at.ensures.kept.leads _ c.in-Ok-entries_at.ensures.many

pub still_held-requires-clause-ready : goal.still_held-requires-clause-ready
still_held-requires-clause-ready g c = g.P.Ground.leads_ready _ _ (g.P.Ground.leads_trans _ _ _ c.entries_at.ensures.kept.leads c.remove_among.ensures.leads) c.requires.ready

pub still_held-requires-clause-page : goal.still_held-requires-clause-page
still_held-requires-clause-page g c = page_after g.P.Ground _ _ (g.P.Ground.leads_trans _ _ _ c.entries_at.ensures.kept.leads c.remove_among.ensures.leads) _ c.in-Ok-entries_at.ensures.area

pub put_index-requires-clause-ready : goal.put_index-requires-clause-ready
put_index-requires-clause-ready g c = g.P.Ground.leads_ready _ _ (g.P.Ground.leads_trans _ _ _ c.entries_at.ensures.kept.leads c.remove_among.ensures.leads) c.requires.ready

pub put_index-requires-clause-page : goal.put_index-requires-clause-page
put_index-requires-clause-page g c = page_after g.P.Ground _ _ (g.P.Ground.leads_trans _ _ _ c.entries_at.ensures.kept.leads c.remove_among.ensures.leads) _ c.in-Ok-entries_at.ensures.area

pub give_page-requires-clause-ready : goal.give_page-requires-clause-ready
give_page-requires-clause-ready g c = g.P.Ground.leads_ready _ _ (g.P.Ground.leads_trans _ _ _ c.entries_at.ensures.kept.leads c.remove_among.ensures.leads) c.requires.ready

pub returns-in-Ok-false-clause-leads : goal.returns-in-Ok-false-clause-leads
returns-in-Ok-false-clause-leads g c = g.P.Ground.leads_trans _ _ _ c.entries_at.ensures.kept.leads c.remove_among.ensures.leads

pub returns-in-Err-remove_among-clause-leads : goal.returns-in-Err-remove_among-clause-leads
returns-in-Err-remove_among-clause-leads g c = g.P.Ground.leads_trans _ _ _ c.entries_at.ensures.kept.leads c.remove_among.ensures.leads

pub returns-in-Err-remove_among-clause-cause : goal.returns-in-Err-remove_among-clause-cause
returns-in-Err-remove_among-clause-cause g c = cause_after g.P.Ground _ _ c.entries_at.ensures.kept.leads c.remove_among.new.pages c.in-Err-remove_among.fault c.in-Err-remove_among.ensures.cause

pub returns-in_err-still_held-in-Ok-true-clause-leads : goal.returns-in_err-still_held-in-Ok-true-clause-leads
returns-in_err-still_held-in-Ok-true-clause-leads g c = g.P.Ground.leads_trans _ _ _ c.entries_at.ensures.kept.leads c.remove_among.ensures.leads

pub returns-in_err-still_held-in-Ok-true-clause-cause : goal.returns-in_err-still_held-in-Ok-true-clause-cause
returns-in_err-still_held-in-Ok-true-clause-cause g c = if_err_handed c.from_residual.result _ c.in_err-still_held-in-Ok-true.field-0.0 c.from_residual.ensures.1 (c.in_err-still_held-in-Ok-true.ensures.cause _ _)

pub returns-in_err-put_index-clause-leads : goal.returns-in_err-put_index-clause-leads
returns-in_err-put_index-clause-leads g c = g.P.Ground.leads_trans _ _ _ c.entries_at.ensures.kept.leads (g.P.Ground.leads_trans _ _ _ c.remove_among.ensures.leads c.put_index.ensures.leads)

pub returns-then-len-gt1-clause-leads : goal.returns-then-len-gt1-clause-leads
returns-then-len-gt1-clause-leads g c = g.P.Ground.leads_trans _ _ _ c.entries_at.ensures.kept.leads (g.P.Ground.leads_trans _ _ _ c.remove_among.ensures.leads c.put_index.ensures.leads)

pub returns-in_err-give_page-clause-leads : goal.returns-in_err-give_page-clause-leads
returns-in_err-give_page-clause-leads g c = g.P.Ground.leads_trans _ _ _ c.entries_at.ensures.kept.leads (g.P.Ground.leads_trans _ _ _ c.remove_among.ensures.leads c.give_page.ensures.leads)

pub returns-clause-leads : goal.returns-clause-leads
returns-clause-leads g c = g.P.Ground.leads_trans _ _ _ c.entries_at.ensures.kept.leads (g.P.Ground.leads_trans _ _ _ c.remove_among.ensures.leads c.give_page.ensures.leads)

pub put_index-requires-clause-buffer : goal.put_index-requires-clause-buffer
put_index-requires-clause-buffer g c = grind (arith, common_steps, g.P.Ground.leads_geometry)

pub returns-in-Err-clause-removes : goal.returns-in-Err-clause-removes
returns-in-Err-clause-removes g c = tt

pub returns-in-Err-clause-shrinks : goal.returns-in-Err-clause-shrinks
returns-in-Err-clause-shrinks g c = tt

pub returns-in-Err-clause-free : goal.returns-in-Err-clause-free
returns-in-Err-clause-free g c = tt

pub returns-in-Err-clause-gives : goal.returns-in-Err-clause-gives
returns-in-Err-clause-gives g c = tt

pub returns-in-Err-clause-way : goal.returns-in-Err-clause-way
returns-in-Err-clause-way g c = tt

pub returns-in-Err-clause-catalog : goal.returns-in-Err-clause-catalog
returns-in-Err-clause-catalog g c = tt

pub returns-in-Err-clause-leaves : goal.returns-in-Err-clause-leaves
returns-in-Err-clause-leaves g c = tt

pub returns-in-Err-clause-touches : goal.returns-in-Err-clause-touches
returns-in-Err-clause-touches g c = tt

pub returns-in-Err-entries_at-clause-removes : goal.returns-in-Err-entries_at-clause-removes
returns-in-Err-entries_at-clause-removes g c = tt

pub returns-in-Err-entries_at-clause-shrinks : goal.returns-in-Err-entries_at-clause-shrinks
returns-in-Err-entries_at-clause-shrinks g c = tt

pub returns-in-Err-entries_at-clause-free : goal.returns-in-Err-entries_at-clause-free
returns-in-Err-entries_at-clause-free g c = tt

pub returns-in-Err-entries_at-clause-gives : goal.returns-in-Err-entries_at-clause-gives
returns-in-Err-entries_at-clause-gives g c = tt

pub returns-in-Err-entries_at-clause-way : goal.returns-in-Err-entries_at-clause-way
returns-in-Err-entries_at-clause-way g c = tt

pub returns-in-Err-entries_at-clause-catalog : goal.returns-in-Err-entries_at-clause-catalog
returns-in-Err-entries_at-clause-catalog g c = tt

pub returns-in-Err-entries_at-clause-leaves : goal.returns-in-Err-entries_at-clause-leaves
returns-in-Err-entries_at-clause-leaves g c = tt

pub returns-in-Err-entries_at-clause-touches : goal.returns-in-Err-entries_at-clause-touches
returns-in-Err-entries_at-clause-touches g c = tt

pub returns-in-Err-remove_among-clause-removes : goal.returns-in-Err-remove_among-clause-removes
returns-in-Err-remove_among-clause-removes g c = tt

pub returns-in-Err-remove_among-clause-shrinks : goal.returns-in-Err-remove_among-clause-shrinks
returns-in-Err-remove_among-clause-shrinks g c = tt

pub returns-in-Err-remove_among-clause-free : goal.returns-in-Err-remove_among-clause-free
returns-in-Err-remove_among-clause-free g c = tt

pub returns-in-Err-remove_among-clause-gives : goal.returns-in-Err-remove_among-clause-gives
returns-in-Err-remove_among-clause-gives g c = tt

pub returns-in-Err-remove_among-clause-way : goal.returns-in-Err-remove_among-clause-way
returns-in-Err-remove_among-clause-way g c = tt

pub returns-in-Err-remove_among-clause-catalog : goal.returns-in-Err-remove_among-clause-catalog
returns-in-Err-remove_among-clause-catalog g c = tt

pub returns-in-Err-remove_among-clause-leaves : goal.returns-in-Err-remove_among-clause-leaves
returns-in-Err-remove_among-clause-leaves g c = tt

pub returns-in-Err-remove_among-clause-touches : goal.returns-in-Err-remove_among-clause-touches
returns-in-Err-remove_among-clause-touches g c = tt

pub returns-in-Ok-false-clause-sound : goal.returns-in-Ok-false-clause-sound
returns-in-Ok-false-clause-sound g c = tt

pub returns-in-Ok-false-clause-fault : goal.returns-in-Ok-false-clause-fault
returns-in-Ok-false-clause-fault g c = tt

pub returns-in-Ok-false-clause-cause : goal.returns-in-Ok-false-clause-cause
returns-in-Ok-false-clause-cause g c = tt

pub returns-then-len-gt1-clause-sound : goal.returns-then-len-gt1-clause-sound
returns-then-len-gt1-clause-sound g c = tt

pub returns-then-len-gt1-clause-fault : goal.returns-then-len-gt1-clause-fault
returns-then-len-gt1-clause-fault g c = tt

pub returns-then-len-gt1-clause-cause : goal.returns-then-len-gt1-clause-cause
returns-then-len-gt1-clause-cause g c = tt

pub returns-clause-sound : goal.returns-clause-sound
returns-clause-sound g c = tt

pub returns-clause-fault : goal.returns-clause-fault
returns-clause-fault g c = tt

pub returns-clause-cause : goal.returns-clause-cause
returns-clause-cause g c = tt

pub returns-in_err-still_held-in-Ok-true-clause-removes : goal.returns-in_err-still_held-in-Ok-true-clause-removes
returns-in_err-still_held-in-Ok-true-clause-removes g c = no_value c.from_residual.result _ c.in_err-still_held-in-Ok-true.field-0.0 c.from_residual.ensures.1

pub returns-in_err-still_held-in-Ok-true-clause-shrinks : goal.returns-in_err-still_held-in-Ok-true-clause-shrinks
returns-in_err-still_held-in-Ok-true-clause-shrinks g c = no_value c.from_residual.result _ c.in_err-still_held-in-Ok-true.field-0.0 c.from_residual.ensures.1

pub returns-in_err-still_held-in-Ok-true-clause-free : goal.returns-in_err-still_held-in-Ok-true-clause-free
returns-in_err-still_held-in-Ok-true-clause-free g c = not_given c.from_residual.result _ c.in_err-still_held-in-Ok-true.field-0.0 c.from_residual.ensures.1

pub returns-in_err-still_held-in-Ok-true-clause-gives : goal.returns-in_err-still_held-in-Ok-true-clause-gives
returns-in_err-still_held-in-Ok-true-clause-gives g c = not_given c.from_residual.result _ c.in_err-still_held-in-Ok-true.field-0.0 c.from_residual.ensures.1

pub returns-in_err-still_held-in-Ok-true-clause-way : goal.returns-in_err-still_held-in-Ok-true-clause-way
returns-in_err-still_held-in-Ok-true-clause-way g c = not_given c.from_residual.result _ c.in_err-still_held-in-Ok-true.field-0.0 c.from_residual.ensures.1

pub returns-in_err-still_held-in-Ok-true-clause-catalog : goal.returns-in_err-still_held-in-Ok-true-clause-catalog
returns-in_err-still_held-in-Ok-true-clause-catalog g c = not_given c.from_residual.result _ c.in_err-still_held-in-Ok-true.field-0.0 c.from_residual.ensures.1

pub returns-in_err-still_held-in-Ok-true-clause-leaves : goal.returns-in_err-still_held-in-Ok-true-clause-leaves
returns-in_err-still_held-in-Ok-true-clause-leaves g c = not_given c.from_residual.result _ c.in_err-still_held-in-Ok-true.field-0.0 c.from_residual.ensures.1

pub returns-in_err-still_held-in-Ok-true-clause-touches : goal.returns-in_err-still_held-in-Ok-true-clause-touches
returns-in_err-still_held-in-Ok-true-clause-touches g c = not_given c.from_residual.result _ c.in_err-still_held-in-Ok-true.field-0.0 c.from_residual.ensures.1

pub returns-in_err-put_index-clause-removes : goal.returns-in_err-put_index-clause-removes
returns-in_err-put_index-clause-removes g c =
    no_value c.from_residual-in_err-put_index.result _ c.in_err-put_index.field-0.0 c.from_residual-in_err-put_index.ensures.1

pub returns-in_err-put_index-clause-shrinks : goal.returns-in_err-put_index-clause-shrinks
returns-in_err-put_index-clause-shrinks g c =
    no_value c.from_residual-in_err-put_index.result _ c.in_err-put_index.field-0.0 c.from_residual-in_err-put_index.ensures.1

pub returns-in_err-put_index-clause-free : goal.returns-in_err-put_index-clause-free
returns-in_err-put_index-clause-free g c =
    not_given c.from_residual-in_err-put_index.result _ c.in_err-put_index.field-0.0 c.from_residual-in_err-put_index.ensures.1

pub returns-in_err-put_index-clause-gives : goal.returns-in_err-put_index-clause-gives
returns-in_err-put_index-clause-gives g c =
    not_given c.from_residual-in_err-put_index.result _ c.in_err-put_index.field-0.0 c.from_residual-in_err-put_index.ensures.1

pub returns-in_err-put_index-clause-way : goal.returns-in_err-put_index-clause-way
returns-in_err-put_index-clause-way g c =
    not_given c.from_residual-in_err-put_index.result _ c.in_err-put_index.field-0.0 c.from_residual-in_err-put_index.ensures.1

pub returns-in_err-put_index-clause-catalog : goal.returns-in_err-put_index-clause-catalog
returns-in_err-put_index-clause-catalog g c =
    not_given c.from_residual-in_err-put_index.result _ c.in_err-put_index.field-0.0 c.from_residual-in_err-put_index.ensures.1

pub returns-in_err-put_index-clause-leaves : goal.returns-in_err-put_index-clause-leaves
returns-in_err-put_index-clause-leaves g c =
    not_given c.from_residual-in_err-put_index.result _ c.in_err-put_index.field-0.0 c.from_residual-in_err-put_index.ensures.1

pub returns-in_err-put_index-clause-touches : goal.returns-in_err-put_index-clause-touches
returns-in_err-put_index-clause-touches g c =
    not_given c.from_residual-in_err-put_index.result _ c.in_err-put_index.field-0.0 c.from_residual-in_err-put_index.ensures.1

pub returns-in_err-put_index-clause-cause : goal.returns-in_err-put_index-clause-cause
returns-in_err-put_index-clause-cause g c =
    handed_after g.P.Ground _ _ (g.P.Ground.leads_trans _ _ _ c.entries_at.ensures.kept.leads c.remove_among.ensures.leads) c.put_index.new.pages
    c.from_residual-in_err-put_index.result c.in_err-put_index.field-0.0 c.from_residual-in_err-put_index.ensures.1 c.in_err-put_index.ensures.cause

pub returns-in_err-put_index-clause-sound : goal.returns-in_err-put_index-clause-sound
returns-in_err-put_index-clause-sound g c =
    if_err_handed c.from_residual-in_err-put_index.result _ c.in_err-put_index.field-0.0 c.from_residual-in_err-put_index.ensures.1
    (λ damage told has. c.in_err-put_index.ensures.no_damage damage)

pub returns-in_err-put_index-clause-fault : goal.returns-in_err-put_index-clause-fault
returns-in_err-put_index-clause-fault g c =
    if_err_handed c.from_residual-in_err-put_index.result _ c.in_err-put_index.field-0.0 c.from_residual-in_err-put_index.ensures.1
    (λ told. inl (other_from (g.P.Ground.geometry c.args.pages.now) (g.P.Ground.held c.args.pages.now) (g.P.Ground.image c.args.pages.now)
    c.args.index.now.file_no c.args.key.0 c.args.index.now.level c.args.index.now.root c.in_err-put_index.field-0.0 c.in_err-put_index.ensures.no_damage))

pub returns-in_err-give_page-clause-removes : goal.returns-in_err-give_page-clause-removes
returns-in_err-give_page-clause-removes g c =
    no_value c.from_residual-in_err-give_page.result _ c.in_err-give_page.field-0.0 c.from_residual-in_err-give_page.ensures.1

pub returns-in_err-give_page-clause-shrinks : goal.returns-in_err-give_page-clause-shrinks
returns-in_err-give_page-clause-shrinks g c =
    no_value c.from_residual-in_err-give_page.result _ c.in_err-give_page.field-0.0 c.from_residual-in_err-give_page.ensures.1

pub returns-in_err-give_page-clause-free : goal.returns-in_err-give_page-clause-free
returns-in_err-give_page-clause-free g c =
    not_given c.from_residual-in_err-give_page.result _ c.in_err-give_page.field-0.0 c.from_residual-in_err-give_page.ensures.1

pub returns-in_err-give_page-clause-gives : goal.returns-in_err-give_page-clause-gives
returns-in_err-give_page-clause-gives g c =
    not_given c.from_residual-in_err-give_page.result _ c.in_err-give_page.field-0.0 c.from_residual-in_err-give_page.ensures.1

pub returns-in_err-give_page-clause-way : goal.returns-in_err-give_page-clause-way
returns-in_err-give_page-clause-way g c =
    not_given c.from_residual-in_err-give_page.result _ c.in_err-give_page.field-0.0 c.from_residual-in_err-give_page.ensures.1

pub returns-in_err-give_page-clause-catalog : goal.returns-in_err-give_page-clause-catalog
returns-in_err-give_page-clause-catalog g c =
    not_given c.from_residual-in_err-give_page.result _ c.in_err-give_page.field-0.0 c.from_residual-in_err-give_page.ensures.1

pub returns-in_err-give_page-clause-leaves : goal.returns-in_err-give_page-clause-leaves
returns-in_err-give_page-clause-leaves g c =
    not_given c.from_residual-in_err-give_page.result _ c.in_err-give_page.field-0.0 c.from_residual-in_err-give_page.ensures.1

pub returns-in_err-give_page-clause-touches : goal.returns-in_err-give_page-clause-touches
returns-in_err-give_page-clause-touches g c =
    not_given c.from_residual-in_err-give_page.result _ c.in_err-give_page.field-0.0 c.from_residual-in_err-give_page.ensures.1

pub returns-in_err-give_page-clause-cause : goal.returns-in_err-give_page-clause-cause
returns-in_err-give_page-clause-cause g c =
    handed_after g.P.Ground _ _ (g.P.Ground.leads_trans _ _ _ c.entries_at.ensures.kept.leads c.remove_among.ensures.leads) c.give_page.new.self
    c.from_residual-in_err-give_page.result c.in_err-give_page.field-0.0 c.from_residual-in_err-give_page.ensures.1 c.in_err-give_page.ensures.cause

pub returns-in_err-give_page-clause-sound : goal.returns-in_err-give_page-clause-sound
returns-in_err-give_page-clause-sound g c =
    if_err_handed c.from_residual-in_err-give_page.result _ c.in_err-give_page.field-0.0 c.from_residual-in_err-give_page.ensures.1
    (λ damage told has. c.in_err-give_page.ensures.no_damage damage)

pub returns-in_err-give_page-clause-fault : goal.returns-in_err-give_page-clause-fault
returns-in_err-give_page-clause-fault g c =
    if_err_handed c.from_residual-in_err-give_page.result _ c.in_err-give_page.field-0.0 c.from_residual-in_err-give_page.ensures.1
    (λ told. inl (other_from (g.P.Ground.geometry c.args.pages.now) (g.P.Ground.held c.args.pages.now) (g.P.Ground.image c.args.pages.now)
    c.args.index.now.file_no c.args.key.0 c.args.index.now.level c.args.index.now.root c.in_err-give_page.field-0.0 c.in_err-give_page.ensures.no_damage))

pub page_buffer-requires : goal.page_buffer-requires
page_buffer-requires g c = c.requires.ready

pub entries_at-requires : goal.entries_at-requires
entries_at-requires g c = c.requires.ready

pub remove_among-requires-clause-level : goal.remove_among-requires-clause-level
remove_among-requires-clause-level g c = c.requires.level

pub remove_among-requires-clause-some : goal.remove_among-requires-clause-some
remove_among-requires-clause-some g c = c.in-Ok-entries_at.ensures.few

pub put_index-requires-clause-level : goal.put_index-requires-clause-level
put_index-requires-clause-level g c = c.requires.level

pub put_index-requires-clause-held : goal.put_index-requires-clause-held
put_index-requires-clause-held g c = c.in_ok-still_held-in-Ok-true.ensures.held

pub put_index-requires-clause-room : goal.put_index-requires-clause-room
put_index-requires-clause-room g c =
    subst (λ (l : List Entry). length l ≤ most_entries (g.P.Ground.geometry c.remove_among.new.pages).page_size) (sym c.deref.ensures.value)
    (room_after g.P.Ground _ _ (g.P.Ground.leads_trans _ _ _ c.entries_at.ensures.kept.leads c.remove_among.ensures.leads) _
    (less_on _ _ _ c.in-Ok-true.ensures.fewer.0 c.in-Ok-entries_at.ensures.many))

pub put_index-requires-clause-some : goal.put_index-requires-clause-some
put_index-requires-clause-some g c =
    subst (λ (l : List Entry). 1 ≤ length l) (sym c.deref.ensures.value)
    (subst (λ (n : ℕ). 1 ≤ n) (c.len.ensures ∙ c.remove_among.new.entries.ok.0) (less_on 1 2 _ (more_none 1 1) c.if-len-gt1.true))

pub give_page-requires-clause-page : goal.give_page-requires-clause-page
give_page-requires-clause-page g c =
    (page_after g.P.Ground _ _ (g.P.Ground.leads_trans _ _ _ c.entries_at.ensures.kept.leads c.remove_among.ensures.leads) _
    c.in-Ok-entries_at.ensures.area).0

pub give_page-requires-clause-other : goal.give_page-requires-clause-other
give_page-requires-clause-other g c = c.in-Ok-entries_at.ensures.area.1

pub index-requires : goal.index-requires
index-requires g c = subst (λ (n : ℕ). 0 < n) (sym c.remove_among.new.entries.ok.0) (left_some _ _ c.in-Ok-entries_at.ensures.few c.in-Ok-true.ensures.fewer.1)

pub returns-in-Err-clause-leads : goal.returns-in-Err-clause-leads
returns-in-Err-clause-leads g c = g.P.Ground.leads_refl _

pub returns-in-Err-clause-fault : goal.returns-in-Err-clause-fault
returns-in-Err-clause-fault g c =
    λ told. inl (other_from (g.P.Ground.geometry c.args.pages.now) (g.P.Ground.held c.args.pages.now) (g.P.Ground.image c.args.pages.now)
    c.args.index.now.file_no c.args.key.0 c.args.index.now.level c.args.index.now.root c.in-Err.fault c.in-Err.ensures.no_damage)

pub returns-in-Err-clause-sound : goal.returns-in-Err-clause-sound
returns-in-Err-clause-sound g c = λ damage told has. c.in-Err.ensures.no_damage damage

pub returns-in-Err-entries_at-clause-cause : goal.returns-in-Err-entries_at-clause-cause
returns-in-Err-entries_at-clause-cause g c = c.in-Err-entries_at.ensures.cause

pub returns-in-Err-entries_at-clause-leads : goal.returns-in-Err-entries_at-clause-leads
returns-in-Err-entries_at-clause-leads g c = c.entries_at.ensures.kept.leads

pub returns-in-Ok-false-clause-shrinks : goal.returns-in-Ok-false-clause-shrinks
returns-in-Ok-false-clause-shrinks g c = shrinks_same c.args.index.now c.args.root c.requires.root

pub returns-then-len-gt1-clause-shrinks : goal.returns-then-len-gt1-clause-shrinks
returns-then-len-gt1-clause-shrinks g c = shrinks_same c.args.index.now c.args.root c.requires.root

pub returns-clause-shrinks : goal.returns-clause-shrinks
returns-clause-shrinks g c = shrinks_one c.args.index.now c.index.result.now.page

pub returns-in-Ok-false-clause-free : goal.returns-in-Ok-false-clause-free
returns-in-Ok-false-clause-free g c = free_on _ _ _ _ (ap (λ (f : Area → ℕ). f Page) c.entries_at.ensures.kept.free) (le_from refl) c.in-Ok-false.ensures.free

pub returns-in-Ok-false-clause-leaves : goal.returns-in-Ok-false-clause-leaves
returns-in-Ok-false-clause-leaves g c = c.in-Ok-false.ensures.leaves ∙ ap (λ (f : Area → ℕ). f Segment) c.entries_at.ensures.kept.free

pub returns-in-Ok-false-clause-touches : goal.returns-in-Ok-false-clause-touches
returns-in-Ok-false-clause-touches g c = touched_level _ _ _ c.args.index.now.level c.entries_at.ensures.kept.touched c.in-Ok-false.ensures.touches

pub returns-in-Ok-false-clause-gives : goal.returns-in-Ok-false-clause-gives
returns-in-Ok-false-clause-gives g c = gives_on g.P.Ground _ _ _ (keeps_gives g.P.Ground _ _ c.entries_at.ensures.kept) c.in-Ok-false.ensures.gives

pub returns-in-Ok-false-clause-catalog : goal.returns-in-Ok-false-clause-catalog
returns-in-Ok-false-clause-catalog g c = c.in-Ok-false.ensures.catalog ∙ ap (λ (f : ℕ → List ℕ). f catalog_no) c.entries_at.ensures.kept.images

pub returns-then-len-gt1-clause-free : goal.returns-then-len-gt1-clause-free
returns-then-len-gt1-clause-free g c =
    free_on _ _ _ _ (ap (λ (f : Area → ℕ). f Page) c.entries_at.ensures.kept.free) c.in-Ok-true.ensures.free
    (le_from (ap (λ (f : Area → ℕ). f Page) c.in_ok-put_index.ensures.free))

pub returns-then-len-gt1-clause-leaves : goal.returns-then-len-gt1-clause-leaves
returns-then-len-gt1-clause-leaves g c =
    ap (λ (f : Area → ℕ). f Segment) c.in_ok-put_index.ensures.free ∙ c.in-Ok-true.ensures.leaves ∙ ap (λ (f : Area → ℕ). f Segment)
    c.entries_at.ensures.kept.free

pub returns-then-len-gt1-clause-touches : goal.returns-then-len-gt1-clause-touches
returns-then-len-gt1-clause-touches g c =
    touched_top _ _ _ _ 1 c.args.index.now.level c.requires.level (more_none 1 1) c.entries_at.ensures.kept.touched c.in-Ok-true.ensures.touches
    c.put_index.ensures.touches

pub returns-then-len-gt1-clause-gives : goal.returns-then-len-gt1-clause-gives
returns-then-len-gt1-clause-gives g c =
    gives_on g.P.Ground _ _ _ (keeps_gives g.P.Ground _ _ c.entries_at.ensures.kept)
    (gives_on g.P.Ground _ _ _ c.in-Ok-true.ensures.gives (same_gives g.P.Ground _ _ c.in_ok-put_index.ensures.held c.in_ok-put_index.ensures.used))

pub returns-then-len-gt1-clause-catalog : goal.returns-then-len-gt1-clause-catalog
returns-then-len-gt1-clause-catalog g c =
    c.in_ok-put_index.ensures.catalog ∙ c.in-Ok-true.ensures.catalog ∙ ap (λ (f : ℕ → List ℕ). f catalog_no) c.entries_at.ensures.kept.images

pub returns-clause-free : goal.returns-clause-free
returns-clause-free g c =
    free_on _ _ _ _ (ap (λ (f : Area → ℕ). f Page) c.entries_at.ensures.kept.free) c.in-Ok-true.ensures.free c.in_ok-give_page.ensures.given.pages

pub returns-clause-leaves : goal.returns-clause-leaves
returns-clause-leaves g c =
    c.in_ok-give_page.ensures.given.leaves ∙ c.in-Ok-true.ensures.leaves ∙ ap (λ (f : Area → ℕ). f Segment) c.entries_at.ensures.kept.free

pub returns-clause-touches : goal.returns-clause-touches
returns-clause-touches g c =
    touched_top _ _ _ _ 1 c.args.index.now.level c.requires.level (more_none 1 1) c.entries_at.ensures.kept.touched c.in-Ok-true.ensures.touches
    c.give_page.ensures.touched

pub returns-clause-gives : goal.returns-clause-gives
returns-clause-gives g c =
    gives_on g.P.Ground _ _ _ (keeps_gives g.P.Ground _ _ c.entries_at.ensures.kept)
    (gives_on g.P.Ground _ _ _ c.in-Ok-true.ensures.gives (given_gives g.P.Ground _ _ c.args.root.0 c.in_ok-give_page.ensures.given
    c.in_ok-still_held-in-Ok-true.ensures.held))

pub returns-clause-catalog : goal.returns-clause-catalog
returns-clause-catalog g c =
    c.in_ok-give_page.ensures.given.images catalog_no (λ same. c.in-Ok-entries_at.ensures.area.1 (sym same)) ∙ c.in-Ok-true.ensures.catalog ∙ ap
    (λ (f : ℕ → List ℕ). f catalog_no) c.entries_at.ensures.kept.images

pub remove_among-requires-clause-buffer : goal.remove_among-requires-clause-buffer
remove_among-requires-clause-buffer g c =
    size_after g.P.Ground _ _ c.entries_at.ensures.kept.leads _ (ap length c.deref_mut.ensures.value ∙ c.in-Ok.ensures.len)

pub returns-in-Err-clause-left : goal.returns-in-Err-clause-left
returns-in-Err-clause-left g c = tt

pub returns-in-Err-entries_at-clause-left : goal.returns-in-Err-entries_at-clause-left
returns-in-Err-entries_at-clause-left g c = tt

pub returns-in-Err-remove_among-clause-left : goal.returns-in-Err-remove_among-clause-left
returns-in-Err-remove_among-clause-left g c = tt

pub returns-in_err-still_held-in-Ok-true-clause-left : goal.returns-in_err-still_held-in-Ok-true-clause-left
returns-in_err-still_held-in-Ok-true-clause-left g c = no_value c.from_residual.result _ c.in_err-still_held-in-Ok-true.field-0.0 c.from_residual.ensures.1

pub returns-in_err-put_index-clause-left : goal.returns-in_err-put_index-clause-left
returns-in_err-put_index-clause-left g c =
    no_value c.from_residual-in_err-put_index.result _ c.in_err-put_index.field-0.0 c.from_residual-in_err-put_index.ensures.1

pub returns-in_err-give_page-clause-left : goal.returns-in_err-give_page-clause-left
returns-in_err-give_page-clause-left g c =
    no_value c.from_residual-in_err-give_page.result _ c.in_err-give_page.field-0.0 c.from_residual-in_err-give_page.ensures.1

pub returns-in-Ok-false-clause-left : goal.returns-in-Ok-false-clause-left
returns-in-Ok-false-clause-left g c = λ told. stays refl

pub returns-then-len-gt1-clause-left : goal.returns-then-len-gt1-clause-left
returns-then-len-gt1-clause-left g c = λ told. stays refl

pub returns-clause-left : goal.returns-clause-left
returns-clause-left g c = λ told.
    let one : length c.remove_among.new.entries.items ≡ 1 = omega (arith, c.if-len-gt1.false, c.in-Ok-true.ensures.fewer, c.in-Ok-entries_at.ensures.few) in
    falls_to (g.P.Ground.image c.args.pages.now) c.args.index.now _ c.args.root c.index.result.now c.in-Ok-entries_at.entries.items c.remove_among.new.entries.items c.requires.root
    (omega (arith, c.requires.level)) refl refl (c.in-Ok-entries_at.ensures.entries told) (c.in-Ok-true.ensures.lone (omega (arith, one))) one c.index.ensures
