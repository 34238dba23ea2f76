use Rattle.std.proofs.Common.{◌∷◌, [], ◌∙◌, ◌-◌, ℕ, length, take, drop, get_or, ap, refl}
use Rattle.ex_base.proofs.Handed.{handed_after, no_value, not_given, cause_here}
use Rattle.file_index.proofs.LaterStates.{page_after, size_after, more_entries_after, room_after}
use Rattle.ex_base.proofs.Results.{if_err_handed}
use Rattle.ex_base.proofs.Counts.{times_apart}
use Rattle.ex_base.specs.declared.names.Area.{Area}
use Rattle.ex_base.specs.declared.names.Area.TheVariants.{Page}
use Rattle.file_index.specs.Damage.{no_entry}
use Rattle.file_index.proofs.Chains.{takes_on, same_takes, more_on, more_none, more_than, one_less, taken_from}
use Rattle.file_index.proofs.Halves.{halves, few_enough, too_many, one_more_few, written_stays, both_stored, key_behind, came_held, came_apart, changes_come}
use Rattle.file_index.proofs.storing.store.Goals as goal

pub put_index-requires-2-clause-ready : goal.put_index-requires-2-clause-ready
put_index-requires-2-clause-ready g c = g.P.Ground.leads_ready _ _ c.take_index.ensures.leads c.requires.ready

pub put_index-requires-2-clause-page : goal.put_index-requires-2-clause-page
put_index-requires-2-clause-page g c = page_after g.P.Ground _ _ c.take_index.ensures.leads _ c.requires.page

pub put_index-requires-2-clause-room : goal.put_index-requires-2-clause-room
put_index-requires-2-clause-room g c =
    room_after g.P.Ground _ _ c.take_index.ensures.leads _
    (halves (g.P.Ground.geometry c.args.pages.now) c.args.entries.now c.left_part-left.result c.left_part-left.ensures
    (too_many (length c.args.buffer.now) c.most_entries.result (length c.args.entries.now) (g.P.Ground.geometry c.args.pages.now) c.most_entries.ensures
    c.requires.buffer c.if-entries-most_entries.false) (one_more_few (g.P.Ground.geometry c.args.pages.now) (length c.args.entries.now)
    c.requires.room)).left_room

pub returns-in_err-put_index-2-clause-leads : goal.returns-in_err-put_index-2-clause-leads
returns-in_err-put_index-2-clause-leads g c = g.P.Ground.leads_trans _ _ _ c.take_index.ensures.leads c.put_index-2.ensures.leads

pub returns-in_err-put_index-2-clause-cause : goal.returns-in_err-put_index-2-clause-cause
returns-in_err-put_index-2-clause-cause g c =
    handed_after g.P.Ground _ _ c.take_index.ensures.leads c.put_index-2.new.pages c.from_residual-in_err-put_index-2.result c.in_err-put_index-2.field-0.0 c.from_residual-in_err-put_index-2.ensures.1 c.in_err-put_index-2.ensures.cause

pub returns-clause-leads : goal.returns-clause-leads
returns-clause-leads g c = g.P.Ground.leads_trans _ _ _ c.take_index.ensures.leads c.put_index-2.ensures.leads

pub returns-in_err-put_index-clause-stored : goal.returns-in_err-put_index-clause-stored
returns-in_err-put_index-clause-stored g c = no_value c.from_residual.result _ c.in_err-put_index.field-0.0 c.from_residual.ensures.1

pub returns-in_err-put_index-clause-changes : goal.returns-in_err-put_index-clause-changes
returns-in_err-put_index-clause-changes g c = no_value c.from_residual.result _ c.in_err-put_index.field-0.0 c.from_residual.ensures.1

pub returns-in_err-put_index-clause-free : goal.returns-in_err-put_index-clause-free
returns-in_err-put_index-clause-free g c = not_given c.from_residual.result _ c.in_err-put_index.field-0.0 c.from_residual.ensures.1

pub returns-in_err-put_index-clause-takes : goal.returns-in_err-put_index-clause-takes
returns-in_err-put_index-clause-takes g c = not_given c.from_residual.result _ c.in_err-put_index.field-0.0 c.from_residual.ensures.1

pub returns-in_err-put_index-clause-catalog : goal.returns-in_err-put_index-clause-catalog
returns-in_err-put_index-clause-catalog g c = not_given c.from_residual.result _ c.in_err-put_index.field-0.0 c.from_residual.ensures.1

pub returns-in_err-put_index-clause-touches : goal.returns-in_err-put_index-clause-touches
returns-in_err-put_index-clause-touches g c = not_given c.from_residual.result _ c.in_err-put_index.field-0.0 c.from_residual.ensures.1

pub returns-in_err-put_index-clause-no_damage : goal.returns-in_err-put_index-clause-no_damage
returns-in_err-put_index-clause-no_damage g c =
    if_err_handed c.from_residual.result _ c.in_err-put_index.field-0.0 c.from_residual.ensures.1 c.in_err-put_index.ensures.no_damage

pub returns-in_err-put_index-clause-cause : goal.returns-in_err-put_index-clause-cause
returns-in_err-put_index-clause-cause g c =
    cause_here _ _ c.from_residual.result c.in_err-put_index.field-0.0 c.from_residual.ensures.1 c.in_err-put_index.ensures.cause

pub returns-in_err-put_index-clause-leads : goal.returns-in_err-put_index-clause-leads
returns-in_err-put_index-clause-leads g c = c.put_index.ensures.leads

pub returns-in_err-page-clause-stored : goal.returns-in_err-page-clause-stored
returns-in_err-page-clause-stored g c = no_value c.from_residual-in_err-page.result _ c.in_err-page.field-0.0 c.from_residual-in_err-page.ensures.1

pub returns-in_err-page-clause-changes : goal.returns-in_err-page-clause-changes
returns-in_err-page-clause-changes g c = no_value c.from_residual-in_err-page.result _ c.in_err-page.field-0.0 c.from_residual-in_err-page.ensures.1

pub returns-in_err-page-clause-free : goal.returns-in_err-page-clause-free
returns-in_err-page-clause-free g c = not_given c.from_residual-in_err-page.result _ c.in_err-page.field-0.0 c.from_residual-in_err-page.ensures.1

pub returns-in_err-page-clause-takes : goal.returns-in_err-page-clause-takes
returns-in_err-page-clause-takes g c = not_given c.from_residual-in_err-page.result _ c.in_err-page.field-0.0 c.from_residual-in_err-page.ensures.1

pub returns-in_err-page-clause-catalog : goal.returns-in_err-page-clause-catalog
returns-in_err-page-clause-catalog g c = not_given c.from_residual-in_err-page.result _ c.in_err-page.field-0.0 c.from_residual-in_err-page.ensures.1

pub returns-in_err-page-clause-touches : goal.returns-in_err-page-clause-touches
returns-in_err-page-clause-touches g c = not_given c.from_residual-in_err-page.result _ c.in_err-page.field-0.0 c.from_residual-in_err-page.ensures.1

pub returns-in_err-page-clause-no_damage : goal.returns-in_err-page-clause-no_damage
returns-in_err-page-clause-no_damage g c =
    if_err_handed c.from_residual-in_err-page.result _ c.in_err-page.field-0.0 c.from_residual-in_err-page.ensures.1 c.in_err-page.ensures.no_damage

pub returns-in_err-page-clause-cause : goal.returns-in_err-page-clause-cause
returns-in_err-page-clause-cause g c =
    cause_here _ _ c.from_residual-in_err-page.result c.in_err-page.field-0.0 c.from_residual-in_err-page.ensures.1 c.in_err-page.ensures.cause

pub returns-in_err-page-clause-leads : goal.returns-in_err-page-clause-leads
returns-in_err-page-clause-leads g c = c.take_index.ensures.leads

pub returns-in_err-put_index-2-clause-stored : goal.returns-in_err-put_index-2-clause-stored
returns-in_err-put_index-2-clause-stored g c =
    no_value c.from_residual-in_err-put_index-2.result _ c.in_err-put_index-2.field-0.0 c.from_residual-in_err-put_index-2.ensures.1

pub returns-in_err-put_index-2-clause-changes : goal.returns-in_err-put_index-2-clause-changes
returns-in_err-put_index-2-clause-changes g c =
    no_value c.from_residual-in_err-put_index-2.result _ c.in_err-put_index-2.field-0.0 c.from_residual-in_err-put_index-2.ensures.1

pub returns-in_err-put_index-2-clause-free : goal.returns-in_err-put_index-2-clause-free
returns-in_err-put_index-2-clause-free g c =
    not_given c.from_residual-in_err-put_index-2.result _ c.in_err-put_index-2.field-0.0 c.from_residual-in_err-put_index-2.ensures.1

pub returns-in_err-put_index-2-clause-takes : goal.returns-in_err-put_index-2-clause-takes
returns-in_err-put_index-2-clause-takes g c =
    not_given c.from_residual-in_err-put_index-2.result _ c.in_err-put_index-2.field-0.0 c.from_residual-in_err-put_index-2.ensures.1

pub returns-in_err-put_index-2-clause-catalog : goal.returns-in_err-put_index-2-clause-catalog
returns-in_err-put_index-2-clause-catalog g c =
    not_given c.from_residual-in_err-put_index-2.result _ c.in_err-put_index-2.field-0.0 c.from_residual-in_err-put_index-2.ensures.1

pub returns-in_err-put_index-2-clause-touches : goal.returns-in_err-put_index-2-clause-touches
returns-in_err-put_index-2-clause-touches g c =
    not_given c.from_residual-in_err-put_index-2.result _ c.in_err-put_index-2.field-0.0 c.from_residual-in_err-put_index-2.ensures.1

pub returns-in_err-put_index-2-clause-no_damage : goal.returns-in_err-put_index-2-clause-no_damage
returns-in_err-put_index-2-clause-no_damage g c =
    if_err_handed c.from_residual-in_err-put_index-2.result _ c.in_err-put_index-2.field-0.0 c.from_residual-in_err-put_index-2.ensures.1
    c.in_err-put_index-2.ensures.no_damage

pub returns-clause-no_damage : goal.returns-clause-no_damage
returns-clause-no_damage g c = tt

pub returns-clause-cause : goal.returns-clause-cause
returns-clause-cause g c = tt

pub returns-then-entries-most_entries-clause-no_damage : goal.returns-then-entries-most_entries-clause-no_damage
returns-then-entries-most_entries-clause-no_damage g c = tt

pub returns-then-entries-most_entries-clause-cause : goal.returns-then-entries-most_entries-clause-cause
returns-then-entries-most_entries-clause-cause g c = tt

pub put_index-requires-clause-ready : goal.put_index-requires-clause-ready
put_index-requires-clause-ready g c = c.requires.ready

pub put_index-requires-clause-page : goal.put_index-requires-clause-page
put_index-requires-clause-page g c = c.requires.page

pub put_index-requires-clause-held : goal.put_index-requires-clause-held
put_index-requires-clause-held g c = c.requires.held

pub put_index-requires-clause-level : goal.put_index-requires-clause-level
put_index-requires-clause-level g c = c.requires.level

pub put_index-requires-clause-some : goal.put_index-requires-clause-some
put_index-requires-clause-some g c = c.requires.some

pub put_index-requires-clause-buffer : goal.put_index-requires-clause-buffer
put_index-requires-clause-buffer g c = c.requires.buffer

pub put_index-requires-clause-room : goal.put_index-requires-clause-room
put_index-requires-clause-room g c =
    few_enough (length c.args.buffer.now) c.most_entries.result (length c.args.entries.now) (g.P.Ground.geometry c.args.pages.now) c.most_entries.ensures
    c.requires.buffer c.if-entries-most_entries.true

pub take_index-requires-clause-ready : goal.take_index-requires-clause-ready
take_index-requires-clause-ready g c = c.requires.ready

pub take_index-requires-clause-free : goal.take_index-requires-clause-free
take_index-requires-clause-free g c = c.requires.free

pub take_index-requires-clause-level : goal.take_index-requires-clause-level
take_index-requires-clause-level g c = c.requires.level

pub take_index-requires-clause-buffer : goal.take_index-requires-clause-buffer
take_index-requires-clause-buffer g c = c.requires.buffer

pub take_index-requires-clause-some : goal.take_index-requires-clause-some
take_index-requires-clause-some g c =
    (halves (g.P.Ground.geometry c.args.pages.now) c.args.entries.now c.left_part-left.result c.left_part-left.ensures
    (too_many (length c.args.buffer.now) c.most_entries.result (length c.args.entries.now) (g.P.Ground.geometry c.args.pages.now) c.most_entries.ensures
    c.requires.buffer c.if-entries-most_entries.false) (one_more_few (g.P.Ground.geometry c.args.pages.now) (length c.args.entries.now)
    c.requires.room)).right_some

pub take_index-requires-clause-room : goal.take_index-requires-clause-room
take_index-requires-clause-room g c =
    (halves (g.P.Ground.geometry c.args.pages.now) c.args.entries.now c.left_part-left.result c.left_part-left.ensures
    (too_many (length c.args.buffer.now) c.most_entries.result (length c.args.entries.now) (g.P.Ground.geometry c.args.pages.now) c.most_entries.ensures
    c.requires.buffer c.if-entries-most_entries.false) (one_more_few (g.P.Ground.geometry c.args.pages.now) (length c.args.entries.now)
    c.requires.room)).right_room

pub bounds-entries-left : goal.bounds-entries-left
bounds-entries-left g c =
    (halves (g.P.Ground.geometry c.args.pages.now) c.args.entries.now c.left_part-left.result c.left_part-left.ensures
    (too_many (length c.args.buffer.now) c.most_entries.result (length c.args.entries.now) (g.P.Ground.geometry c.args.pages.now) c.most_entries.ensures
    c.requires.buffer c.if-entries-most_entries.false) (one_more_few (g.P.Ground.geometry c.args.pages.now) (length c.args.entries.now)
    c.requires.room)).inside

pub slice_bounds-put_index-end : goal.slice_bounds-put_index-end
slice_bounds-put_index-end g c =
    (halves (g.P.Ground.geometry c.args.pages.now) c.args.entries.now c.left_part-left.result c.left_part-left.ensures
    (too_many (length c.args.buffer.now) c.most_entries.result (length c.args.entries.now) (g.P.Ground.geometry c.args.pages.now) c.most_entries.ensures
    c.requires.buffer c.if-entries-most_entries.false) (one_more_few (g.P.Ground.geometry c.args.pages.now) (length c.args.entries.now)
    c.requires.room)).front

pub put_index-requires-2-clause-some : goal.put_index-requires-2-clause-some
put_index-requires-2-clause-some g c =
    (halves (g.P.Ground.geometry c.args.pages.now) c.args.entries.now c.left_part-left.result c.left_part-left.ensures
    (too_many (length c.args.buffer.now) c.most_entries.result (length c.args.entries.now) (g.P.Ground.geometry c.args.pages.now) c.most_entries.ensures
    c.requires.buffer c.if-entries-most_entries.false) (one_more_few (g.P.Ground.geometry c.args.pages.now) (length c.args.entries.now)
    c.requires.room)).left_some

pub put_index-requires-2-clause-level : goal.put_index-requires-2-clause-level
put_index-requires-2-clause-level g c = c.requires.level

pub put_index-requires-2-clause-held : goal.put_index-requires-2-clause-held
put_index-requires-2-clause-held g c = c.in_ok-page.ensures.takes.held c.args.named.now.page.0 c.requires.held

pub put_index-requires-2-clause-buffer : goal.put_index-requires-2-clause-buffer
put_index-requires-2-clause-buffer g c = size_after g.P.Ground _ _ c.take_index.ensures.leads _ (c.take_index.auto.buffer ∙ c.requires.buffer)

pub returns-then-entries-most_entries-clause-stored : goal.returns-then-entries-most_entries-clause-stored
returns-then-entries-most_entries-clause-stored g c = c.in_ok-put_index.ensures.written

pub returns-then-entries-most_entries-clause-changes : goal.returns-then-entries-most_entries-clause-changes
returns-then-entries-most_entries-clause-changes g c = c.in_ok-put_index.ensures.changes

pub returns-then-entries-most_entries-clause-catalog : goal.returns-then-entries-most_entries-clause-catalog
returns-then-entries-most_entries-clause-catalog g c = c.in_ok-put_index.ensures.catalog

pub returns-then-entries-most_entries-clause-leads : goal.returns-then-entries-most_entries-clause-leads
returns-then-entries-most_entries-clause-leads g c = c.put_index.ensures.leads

pub returns-then-entries-most_entries-clause-touches : goal.returns-then-entries-most_entries-clause-touches
returns-then-entries-most_entries-clause-touches g c = more_than _ _ 1 2 c.put_index.ensures.touches (more_none 1 1)

pub returns-then-entries-most_entries-clause-takes : goal.returns-then-entries-most_entries-clause-takes
returns-then-entries-most_entries-clause-takes g c = same_takes g.P.Ground _ _ c.in_ok-put_index.ensures.held c.in_ok-put_index.ensures.used

pub returns-then-entries-most_entries-clause-free : goal.returns-then-entries-most_entries-clause-free
returns-then-entries-most_entries-clause-free g c = one_less _ _ (ap (λ (f : Area → ℕ). f Page) c.in_ok-put_index.ensures.free)

pub returns-clause-free : goal.returns-clause-free
returns-clause-free g c = taken_from _ _ _ c.in_ok-page.ensures.free (ap (λ (f : Area → ℕ). f Page) c.in_ok-put_index-2.ensures.free)

pub returns-clause-takes : goal.returns-clause-takes
returns-clause-takes g c =
    takes_on g.P.Ground _ _ _ c.in_ok-page.ensures.takes (same_takes g.P.Ground _ _ c.in_ok-put_index-2.ensures.held c.in_ok-put_index-2.ensures.used)

pub returns-clause-catalog : goal.returns-clause-catalog
returns-clause-catalog g c = c.in_ok-put_index-2.ensures.catalog ∙ c.in_ok-page.ensures.catalog

pub returns-clause-touches : goal.returns-clause-touches
returns-clause-touches g c = more_on _ _ _ 1 1 c.take_index.ensures.touches c.put_index-2.ensures.touches

pub returns-clause-changes : goal.returns-clause-changes
returns-clause-changes g c =
    changes_come g.P.Ground c.args.pages.now c.take_index.new.pages c.put_index-2.new.pages c.args.named.now.page.0 c.in_ok-page.page.0
    c.in_ok-page.ensures.changes c.in_ok-put_index-2.ensures.changes

pub returns-clause-stored : goal.returns-clause-stored
returns-clause-stored g c = λ told.
    let h = halves (g.P.Ground.geometry c.args.pages.now) c.args.entries.now c.left_part-left.result c.left_part-left.ensures
    (too_many (length c.args.buffer.now) c.most_entries.result (length c.args.entries.now) (g.P.Ground.geometry c.args.pages.now) c.most_entries.ensures
    c.requires.buffer c.if-entries-most_entries.false) (one_more_few (g.P.Ground.geometry c.args.pages.now) (length c.args.entries.now) c.requires.room) in
    let leads = g.P.Ground.leads_trans _ _ _ c.take_index.ensures.leads c.put_index-2.ensures.leads in
    both_stored g.P.Ground c.put_index-2.new.pages c.args.named.now.page.0 c.args.named.now.level c.args.named.now.file_no c.left_part-left.result
    c.args.named.now.level c.args.named.now.file_no c.args.entries.now
    (record { key = (get_or c.args.entries.now c.left_part-left.result no_entry).key; page = c.in_ok-page.page }) c.left_part-left.ensures refl refl
    (more_entries_after g.P.Ground _ _ leads _ (too_many (length c.args.buffer.now) c.most_entries.result (length c.args.entries.now)
    (g.P.Ground.geometry c.args.pages.now) c.most_entries.ensures c.requires.buffer c.if-entries-most_entries.false))
    (key_behind c.args.entries.now c.left_part-left.result no_entry h.inside)
    (c.in_ok-put_index-2.ensures.written (g.P.Ground.leads_told _ _ c.take_index.ensures.leads told))
    (written_stays g.P.Ground c.take_index.new.pages c.put_index-2.new.pages c.in_ok-page.page.0 c.args.named.now.level c.args.named.now.file_no
    (take (length c.args.entries.now - c.left_part-left.result) (drop c.left_part-left.result c.args.entries.now)) (c.args.named.now.page.0 ∷ [])
    (c.args.named.now.page.0 ∷ [])
    (came_held g.P.Ground _ _ c.in_ok-page.page.0 c.in_ok-page.ensures.changes)
    (times_apart c.in_ok-page.page.0 c.args.named.now.page.0 []
    (came_apart g.P.Ground _ _ c.in_ok-page.page.0 c.args.named.now.page.0 c.in_ok-page.ensures.changes c.requires.held)) c.in_ok-put_index-2.ensures.changes
    (c.in_ok-page.ensures.written told))
