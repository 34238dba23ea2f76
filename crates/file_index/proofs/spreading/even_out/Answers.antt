use Rattle.std.proofs.Common.{◌≤◌, ◌∷◌, [], ◌∙◌, ℕ, Bool, length, take, get_or, ap, sym, subst}
use Rattle.ex_base.proofs.Handed.{handed_after, no_value, not_given, cause_here}
use Rattle.file_index.proofs.LaterStates.{page_after, size_after, more_entries_after, room_after}
use Rattle.ex_base.proofs.Results.{if_err_handed}
use Rattle.ex_base.proofs.Counts.{times_apart}
use Rattle.ex_base.specs.declared.names.Area.{Area}
use Rattle.ex_base.specs.declared.names.Area.TheVariants.{Page}
use Rattle.ex_base.specs.Area.{catalog_no}
use Rattle.file_index.specs.Damage.{no_entry}
use Rattle.file_index.proofs.Counts.{give_changes}
use Rattle.file_index.proofs.Chains.{gives_on, same_gives, given_gives, more_on, le_from}
use Rattle.file_index.proofs.Halves.{halves, few_enough, too_many, written_stays, both_stored, key_behind, changes_two}
use Rattle.file_index.proofs.spreading.even_out.Goals as goal

pub give_page-requires-clause-ready : goal.give_page-requires-clause-ready
give_page-requires-clause-ready g c = g.P.Ground.leads_ready _ _ c.put_index.ensures.leads c.requires.ready

pub put_index-requires-3-clause-ready : goal.put_index-requires-3-clause-ready
put_index-requires-3-clause-ready g c = g.P.Ground.leads_ready _ _ c.put_index-2.ensures.leads c.requires.ready

pub put_index-requires-3-clause-page : goal.put_index-requires-3-clause-page
put_index-requires-3-clause-page g c = page_after g.P.Ground _ _ c.put_index-2.ensures.leads _ c.requires.right

pub put_index-requires-3-clause-room : goal.put_index-requires-3-clause-room
put_index-requires-3-clause-room g c =
    room_after g.P.Ground _ _ c.put_index-2.ensures.leads _
    (halves (g.P.Ground.geometry c.args.pages.now) c.args.all.now c.left_part-half.result c.left_part-half.ensures
    (too_many (length c.args.buffer.now) c.most_entries.result (length c.args.all.now) (g.P.Ground.geometry c.args.pages.now) c.most_entries.ensures
    c.requires.buffer c.if-all-most_entries.false) c.requires.many).right_room

pub returns-in_err-give_page-clause-leads : goal.returns-in_err-give_page-clause-leads
returns-in_err-give_page-clause-leads g c = g.P.Ground.leads_trans _ _ _ c.put_index.ensures.leads c.give_page.ensures.leads

pub returns-in_err-give_page-clause-cause : goal.returns-in_err-give_page-clause-cause
returns-in_err-give_page-clause-cause g c = handed_after g.P.Ground _ _ c.put_index.ensures.leads c.give_page.new.self c.from_residual-in_err-give_page.result c.in_err-give_page.field-0.0 c.from_residual-in_err-give_page.ensures.1 c.in_err-give_page.ensures.cause

pub returns-then-all-most_entries-clause-leads : goal.returns-then-all-most_entries-clause-leads
returns-then-all-most_entries-clause-leads g c = g.P.Ground.leads_trans _ _ _ c.put_index.ensures.leads c.give_page.ensures.leads

pub returns-in_err-put_index-3-clause-leads : goal.returns-in_err-put_index-3-clause-leads
returns-in_err-put_index-3-clause-leads g c = g.P.Ground.leads_trans _ _ _ c.put_index-2.ensures.leads c.put_index-3.ensures.leads

pub returns-in_err-put_index-3-clause-cause : goal.returns-in_err-put_index-3-clause-cause
returns-in_err-put_index-3-clause-cause g c = handed_after g.P.Ground _ _ c.put_index-2.ensures.leads c.put_index-3.new.pages c.from_residual-in_err-put_index-3.result c.in_err-put_index-3.field-0.0 c.from_residual-in_err-put_index-3.ensures.1 c.in_err-put_index-3.ensures.cause

pub returns-clause-leads : goal.returns-clause-leads
returns-clause-leads g c = g.P.Ground.leads_trans _ _ _ c.put_index-2.ensures.leads c.put_index-3.ensures.leads

pub returns-in_err-put_index-clause-stored : goal.returns-in_err-put_index-clause-stored
returns-in_err-put_index-clause-stored g c = no_value c.from_residual.result _ c.in_err-put_index.field-0.0 c.from_residual.ensures.1

pub returns-in_err-put_index-clause-changes : goal.returns-in_err-put_index-clause-changes
returns-in_err-put_index-clause-changes g c = no_value c.from_residual.result _ c.in_err-put_index.field-0.0 c.from_residual.ensures.1

pub returns-in_err-put_index-clause-free : goal.returns-in_err-put_index-clause-free
returns-in_err-put_index-clause-free g c = not_given c.from_residual.result _ c.in_err-put_index.field-0.0 c.from_residual.ensures.1

pub returns-in_err-put_index-clause-gives : goal.returns-in_err-put_index-clause-gives
returns-in_err-put_index-clause-gives g c = not_given c.from_residual.result _ c.in_err-put_index.field-0.0 c.from_residual.ensures.1

pub returns-in_err-put_index-clause-catalog : goal.returns-in_err-put_index-clause-catalog
returns-in_err-put_index-clause-catalog g c = not_given c.from_residual.result _ c.in_err-put_index.field-0.0 c.from_residual.ensures.1

pub returns-in_err-put_index-clause-touches : goal.returns-in_err-put_index-clause-touches
returns-in_err-put_index-clause-touches g c = not_given c.from_residual.result _ c.in_err-put_index.field-0.0 c.from_residual.ensures.1

pub returns-in_err-put_index-clause-no_damage : goal.returns-in_err-put_index-clause-no_damage
returns-in_err-put_index-clause-no_damage g c =
    if_err_handed c.from_residual.result _ c.in_err-put_index.field-0.0 c.from_residual.ensures.1 c.in_err-put_index.ensures.no_damage

pub returns-in_err-put_index-clause-cause : goal.returns-in_err-put_index-clause-cause
returns-in_err-put_index-clause-cause g c =
    cause_here _ _ c.from_residual.result c.in_err-put_index.field-0.0 c.from_residual.ensures.1 c.in_err-put_index.ensures.cause

pub returns-in_err-put_index-clause-leads : goal.returns-in_err-put_index-clause-leads
returns-in_err-put_index-clause-leads g c = c.put_index.ensures.leads

pub returns-in_err-give_page-clause-stored : goal.returns-in_err-give_page-clause-stored
returns-in_err-give_page-clause-stored g c =
    no_value c.from_residual-in_err-give_page.result _ c.in_err-give_page.field-0.0 c.from_residual-in_err-give_page.ensures.1

pub returns-in_err-give_page-clause-changes : goal.returns-in_err-give_page-clause-changes
returns-in_err-give_page-clause-changes g c =
    no_value c.from_residual-in_err-give_page.result _ c.in_err-give_page.field-0.0 c.from_residual-in_err-give_page.ensures.1

pub returns-in_err-give_page-clause-free : goal.returns-in_err-give_page-clause-free
returns-in_err-give_page-clause-free g c =
    not_given c.from_residual-in_err-give_page.result _ c.in_err-give_page.field-0.0 c.from_residual-in_err-give_page.ensures.1

pub returns-in_err-give_page-clause-gives : goal.returns-in_err-give_page-clause-gives
returns-in_err-give_page-clause-gives g c =
    not_given c.from_residual-in_err-give_page.result _ c.in_err-give_page.field-0.0 c.from_residual-in_err-give_page.ensures.1

pub returns-in_err-give_page-clause-catalog : goal.returns-in_err-give_page-clause-catalog
returns-in_err-give_page-clause-catalog g c =
    not_given c.from_residual-in_err-give_page.result _ c.in_err-give_page.field-0.0 c.from_residual-in_err-give_page.ensures.1

pub returns-in_err-give_page-clause-touches : goal.returns-in_err-give_page-clause-touches
returns-in_err-give_page-clause-touches g c =
    not_given c.from_residual-in_err-give_page.result _ c.in_err-give_page.field-0.0 c.from_residual-in_err-give_page.ensures.1

pub returns-in_err-give_page-clause-no_damage : goal.returns-in_err-give_page-clause-no_damage
returns-in_err-give_page-clause-no_damage g c =
    if_err_handed c.from_residual-in_err-give_page.result _ c.in_err-give_page.field-0.0 c.from_residual-in_err-give_page.ensures.1
    c.in_err-give_page.ensures.no_damage

pub returns-in_err-put_index-2-clause-stored : goal.returns-in_err-put_index-2-clause-stored
returns-in_err-put_index-2-clause-stored g c =
    no_value c.from_residual-in_err-put_index-2.result _ c.in_err-put_index-2.field-0.0 c.from_residual-in_err-put_index-2.ensures.1

pub returns-in_err-put_index-2-clause-changes : goal.returns-in_err-put_index-2-clause-changes
returns-in_err-put_index-2-clause-changes g c =
    no_value c.from_residual-in_err-put_index-2.result _ c.in_err-put_index-2.field-0.0 c.from_residual-in_err-put_index-2.ensures.1

pub returns-in_err-put_index-2-clause-free : goal.returns-in_err-put_index-2-clause-free
returns-in_err-put_index-2-clause-free g c =
    not_given c.from_residual-in_err-put_index-2.result _ c.in_err-put_index-2.field-0.0 c.from_residual-in_err-put_index-2.ensures.1

pub returns-in_err-put_index-2-clause-gives : goal.returns-in_err-put_index-2-clause-gives
returns-in_err-put_index-2-clause-gives g c =
    not_given c.from_residual-in_err-put_index-2.result _ c.in_err-put_index-2.field-0.0 c.from_residual-in_err-put_index-2.ensures.1

pub returns-in_err-put_index-2-clause-catalog : goal.returns-in_err-put_index-2-clause-catalog
returns-in_err-put_index-2-clause-catalog g c =
    not_given c.from_residual-in_err-put_index-2.result _ c.in_err-put_index-2.field-0.0 c.from_residual-in_err-put_index-2.ensures.1

pub returns-in_err-put_index-2-clause-touches : goal.returns-in_err-put_index-2-clause-touches
returns-in_err-put_index-2-clause-touches g c =
    not_given c.from_residual-in_err-put_index-2.result _ c.in_err-put_index-2.field-0.0 c.from_residual-in_err-put_index-2.ensures.1

pub returns-in_err-put_index-2-clause-no_damage : goal.returns-in_err-put_index-2-clause-no_damage
returns-in_err-put_index-2-clause-no_damage g c =
    if_err_handed c.from_residual-in_err-put_index-2.result _ c.in_err-put_index-2.field-0.0 c.from_residual-in_err-put_index-2.ensures.1
    c.in_err-put_index-2.ensures.no_damage

pub returns-in_err-put_index-2-clause-cause : goal.returns-in_err-put_index-2-clause-cause
returns-in_err-put_index-2-clause-cause g c =
    cause_here _ _ c.from_residual-in_err-put_index-2.result c.in_err-put_index-2.field-0.0 c.from_residual-in_err-put_index-2.ensures.1
    c.in_err-put_index-2.ensures.cause

pub returns-in_err-put_index-2-clause-leads : goal.returns-in_err-put_index-2-clause-leads
returns-in_err-put_index-2-clause-leads g c = c.put_index-2.ensures.leads

pub returns-in_err-put_index-3-clause-stored : goal.returns-in_err-put_index-3-clause-stored
returns-in_err-put_index-3-clause-stored g c =
    no_value c.from_residual-in_err-put_index-3.result _ c.in_err-put_index-3.field-0.0 c.from_residual-in_err-put_index-3.ensures.1

pub returns-in_err-put_index-3-clause-changes : goal.returns-in_err-put_index-3-clause-changes
returns-in_err-put_index-3-clause-changes g c =
    no_value c.from_residual-in_err-put_index-3.result _ c.in_err-put_index-3.field-0.0 c.from_residual-in_err-put_index-3.ensures.1

pub returns-in_err-put_index-3-clause-free : goal.returns-in_err-put_index-3-clause-free
returns-in_err-put_index-3-clause-free g c =
    not_given c.from_residual-in_err-put_index-3.result _ c.in_err-put_index-3.field-0.0 c.from_residual-in_err-put_index-3.ensures.1

pub returns-in_err-put_index-3-clause-gives : goal.returns-in_err-put_index-3-clause-gives
returns-in_err-put_index-3-clause-gives g c =
    not_given c.from_residual-in_err-put_index-3.result _ c.in_err-put_index-3.field-0.0 c.from_residual-in_err-put_index-3.ensures.1

pub returns-in_err-put_index-3-clause-catalog : goal.returns-in_err-put_index-3-clause-catalog
returns-in_err-put_index-3-clause-catalog g c =
    not_given c.from_residual-in_err-put_index-3.result _ c.in_err-put_index-3.field-0.0 c.from_residual-in_err-put_index-3.ensures.1

pub returns-in_err-put_index-3-clause-touches : goal.returns-in_err-put_index-3-clause-touches
returns-in_err-put_index-3-clause-touches g c =
    not_given c.from_residual-in_err-put_index-3.result _ c.in_err-put_index-3.field-0.0 c.from_residual-in_err-put_index-3.ensures.1

pub returns-in_err-put_index-3-clause-no_damage : goal.returns-in_err-put_index-3-clause-no_damage
returns-in_err-put_index-3-clause-no_damage g c =
    if_err_handed c.from_residual-in_err-put_index-3.result _ c.in_err-put_index-3.field-0.0 c.from_residual-in_err-put_index-3.ensures.1
    c.in_err-put_index-3.ensures.no_damage

pub returns-clause-no_damage : goal.returns-clause-no_damage
returns-clause-no_damage g c = tt

pub returns-clause-cause : goal.returns-clause-cause
returns-clause-cause g c = tt

pub returns-then-all-most_entries-clause-no_damage : goal.returns-then-all-most_entries-clause-no_damage
returns-then-all-most_entries-clause-no_damage g c = tt

pub returns-then-all-most_entries-clause-cause : goal.returns-then-all-most_entries-clause-cause
returns-then-all-most_entries-clause-cause g c = tt

pub put_index-requires-clause-ready : goal.put_index-requires-clause-ready
put_index-requires-clause-ready g c = c.requires.ready

pub put_index-requires-clause-page : goal.put_index-requires-clause-page
put_index-requires-clause-page g c = c.requires.left

pub put_index-requires-clause-held : goal.put_index-requires-clause-held
put_index-requires-clause-held g c = c.requires.held.0

pub put_index-requires-clause-level : goal.put_index-requires-clause-level
put_index-requires-clause-level g c = c.requires.level

pub put_index-requires-clause-some : goal.put_index-requires-clause-some
put_index-requires-clause-some g c = c.requires.some

pub put_index-requires-clause-buffer : goal.put_index-requires-clause-buffer
put_index-requires-clause-buffer g c = c.requires.buffer

pub put_index-requires-clause-room : goal.put_index-requires-clause-room
put_index-requires-clause-room g c =
    few_enough (length c.args.buffer.now) c.most_entries.result (length c.args.all.now) (g.P.Ground.geometry c.args.pages.now) c.most_entries.ensures
    c.requires.buffer c.if-all-most_entries.true

pub put_index-requires-2-clause-ready : goal.put_index-requires-2-clause-ready
put_index-requires-2-clause-ready g c = c.requires.ready

pub put_index-requires-2-clause-page : goal.put_index-requires-2-clause-page
put_index-requires-2-clause-page g c = c.requires.left

pub put_index-requires-2-clause-held : goal.put_index-requires-2-clause-held
put_index-requires-2-clause-held g c = c.requires.held.0

pub put_index-requires-2-clause-level : goal.put_index-requires-2-clause-level
put_index-requires-2-clause-level g c = c.requires.level

pub put_index-requires-2-clause-buffer : goal.put_index-requires-2-clause-buffer
put_index-requires-2-clause-buffer g c = c.requires.buffer

pub put_index-requires-2-clause-some : goal.put_index-requires-2-clause-some
put_index-requires-2-clause-some g c =
    (halves (g.P.Ground.geometry c.args.pages.now) c.args.all.now c.left_part-half.result c.left_part-half.ensures
    (too_many (length c.args.buffer.now) c.most_entries.result (length c.args.all.now) (g.P.Ground.geometry c.args.pages.now) c.most_entries.ensures
    c.requires.buffer c.if-all-most_entries.false) c.requires.many).left_some

pub put_index-requires-2-clause-room : goal.put_index-requires-2-clause-room
put_index-requires-2-clause-room g c =
    (halves (g.P.Ground.geometry c.args.pages.now) c.args.all.now c.left_part-half.result c.left_part-half.ensures
    (too_many (length c.args.buffer.now) c.most_entries.result (length c.args.all.now) (g.P.Ground.geometry c.args.pages.now) c.most_entries.ensures
    c.requires.buffer c.if-all-most_entries.false) c.requires.many).left_room

pub slice_bounds-put_index-end : goal.slice_bounds-put_index-end
slice_bounds-put_index-end g c =
    (halves (g.P.Ground.geometry c.args.pages.now) c.args.all.now c.left_part-half.result c.left_part-half.ensures
    (too_many (length c.args.buffer.now) c.most_entries.result (length c.args.all.now) (g.P.Ground.geometry c.args.pages.now) c.most_entries.ensures
    c.requires.buffer c.if-all-most_entries.false) c.requires.many).front

pub put_index-requires-3-clause-some : goal.put_index-requires-3-clause-some
put_index-requires-3-clause-some g c =
    (halves (g.P.Ground.geometry c.args.pages.now) c.args.all.now c.left_part-half.result c.left_part-half.ensures
    (too_many (length c.args.buffer.now) c.most_entries.result (length c.args.all.now) (g.P.Ground.geometry c.args.pages.now) c.most_entries.ensures
    c.requires.buffer c.if-all-most_entries.false) c.requires.many).right_some

pub bounds-all-half : goal.bounds-all-half
bounds-all-half g c =
    (halves (g.P.Ground.geometry c.args.pages.now) c.args.all.now c.left_part-half.result c.left_part-half.ensures
    (too_many (length c.args.buffer.now) c.most_entries.result (length c.args.all.now) (g.P.Ground.geometry c.args.pages.now) c.most_entries.ensures
    c.requires.buffer c.if-all-most_entries.false) c.requires.many).inside

pub put_index-requires-3-clause-held : goal.put_index-requires-3-clause-held
put_index-requires-3-clause-held g c = (ap (λ (f : ℕ → Bool). f c.args.right.now.page.0) c.in_ok-put_index-2.ensures.held ∙ c.requires.held.1)

pub put_index-requires-3-clause-level : goal.put_index-requires-3-clause-level
put_index-requires-3-clause-level g c = subst (λ (n : ℕ). 1 ≤ n) (sym c.requires.same.0) c.requires.level

pub put_index-requires-3-clause-buffer : goal.put_index-requires-3-clause-buffer
put_index-requires-3-clause-buffer g c = size_after g.P.Ground _ _ c.put_index-2.ensures.leads _ (c.put_index-2.auto.buffer ∙ c.requires.buffer)

pub give_page-requires-clause-page : goal.give_page-requires-clause-page
give_page-requires-clause-page g c = (page_after g.P.Ground _ _ c.put_index.ensures.leads _ c.requires.right).0

pub give_page-requires-clause-other : goal.give_page-requires-clause-other
give_page-requires-clause-other g c = c.requires.right.1

pub returns-then-all-most_entries-clause-changes : goal.returns-then-all-most_entries-clause-changes
returns-then-all-most_entries-clause-changes g c =
    changes_two g.P.Ground c.args.pages.now c.put_index.new.pages c.give_page.new.self c.args.left.now.page.0 c.args.right.now.page.0 []
    c.in_ok-put_index.ensures.changes (give_changes g.P.Ground c.put_index.new.pages c.give_page.new.self c.args.right.now.page.0
    c.in_ok-give_page.ensures.given (ap (λ (f : ℕ → Bool). f c.args.right.now.page.0) c.in_ok-put_index.ensures.held ∙ c.requires.held.1)
    c.give_page.ensures.leads)

pub returns-then-all-most_entries-clause-stored : goal.returns-then-all-most_entries-clause-stored
returns-then-all-most_entries-clause-stored g c =
    λ told differ. written_stays g.P.Ground c.put_index.new.pages c.give_page.new.self c.args.left.now.page.0 c.args.left.now.level c.args.left.now.file_no
    c.args.all.now (c.args.right.now.page.0 ∷ []) [] (ap (λ (f : ℕ → Bool). f c.args.left.now.page.0) c.in_ok-put_index.ensures.held ∙ c.requires.held.0)
    (times_apart c.args.left.now.page.0 c.args.right.now.page.0 [] differ)
    (give_changes g.P.Ground c.put_index.new.pages c.give_page.new.self c.args.right.now.page.0 c.in_ok-give_page.ensures.given
    (ap (λ (f : ℕ → Bool). f c.args.right.now.page.0) c.in_ok-put_index.ensures.held ∙ c.requires.held.1) c.give_page.ensures.leads)
    (c.in_ok-put_index.ensures.written told)

pub returns-then-all-most_entries-clause-gives : goal.returns-then-all-most_entries-clause-gives
returns-then-all-most_entries-clause-gives g c =
    gives_on g.P.Ground _ _ _ (same_gives g.P.Ground _ _ c.in_ok-put_index.ensures.held c.in_ok-put_index.ensures.used)
    (given_gives g.P.Ground _ _ c.args.right.now.page.0 c.in_ok-give_page.ensures.given
    (ap (λ (f : ℕ → Bool). f c.args.right.now.page.0) c.in_ok-put_index.ensures.held ∙ c.requires.held.1))

pub returns-then-all-most_entries-clause-catalog : goal.returns-then-all-most_entries-clause-catalog
returns-then-all-most_entries-clause-catalog g c =
    c.in_ok-give_page.ensures.given.images catalog_no (λ same. c.requires.right.1 (sym same)) ∙ c.in_ok-put_index.ensures.catalog

pub returns-then-all-most_entries-clause-touches : goal.returns-then-all-most_entries-clause-touches
returns-then-all-most_entries-clause-touches g c = more_on _ _ _ 1 1 c.put_index.ensures.touches c.give_page.ensures.touched

pub returns-then-all-most_entries-clause-free : goal.returns-then-all-most_entries-clause-free
returns-then-all-most_entries-clause-free g c =
    subst (λ (n : ℕ). n ≤ g.P.Ground.free c.give_page.new.self Page) (ap (λ (f : Area → ℕ). f Page) c.in_ok-put_index.ensures.free)
    c.in_ok-give_page.ensures.given.pages

pub returns-clause-changes : goal.returns-clause-changes
returns-clause-changes g c =
    changes_two g.P.Ground c.args.pages.now c.put_index-2.new.pages c.put_index-3.new.pages c.args.left.now.page.0 c.args.right.now.page.0
    (c.args.right.now.page.0 ∷ []) c.in_ok-put_index-2.ensures.changes c.in_ok-put_index-3.ensures.changes

pub returns-clause-gives : goal.returns-clause-gives
returns-clause-gives g c =
    gives_on g.P.Ground _ _ _ (same_gives g.P.Ground _ _ c.in_ok-put_index-2.ensures.held c.in_ok-put_index-2.ensures.used)
    (same_gives g.P.Ground _ _ c.in_ok-put_index-3.ensures.held c.in_ok-put_index-3.ensures.used)

pub returns-clause-catalog : goal.returns-clause-catalog
returns-clause-catalog g c = c.in_ok-put_index-3.ensures.catalog ∙ c.in_ok-put_index-2.ensures.catalog

pub returns-clause-touches : goal.returns-clause-touches
returns-clause-touches g c = more_on _ _ _ 1 1 c.put_index-2.ensures.touches c.put_index-3.ensures.touches

pub returns-clause-free : goal.returns-clause-free
returns-clause-free g c = le_from (ap (λ (f : Area → ℕ). f Page) (c.in_ok-put_index-3.ensures.free ∙ c.in_ok-put_index-2.ensures.free))

pub returns-clause-stored : goal.returns-clause-stored
returns-clause-stored g c = λ told differ.
    let h = halves (g.P.Ground.geometry c.args.pages.now) c.args.all.now c.left_part-half.result c.left_part-half.ensures
    (too_many (length c.args.buffer.now) c.most_entries.result (length c.args.all.now) (g.P.Ground.geometry c.args.pages.now) c.most_entries.ensures
    c.requires.buffer c.if-all-most_entries.false) c.requires.many in
    let leads = g.P.Ground.leads_trans _ _ _ c.put_index-2.ensures.leads c.put_index-3.ensures.leads in
    both_stored g.P.Ground c.put_index-3.new.pages c.args.left.now.page.0 c.args.left.now.level c.args.left.now.file_no c.left_part-half.result
    c.args.right.now.level c.args.right.now.file_no c.args.all.now
    (record { key = (get_or c.args.all.now c.left_part-half.result no_entry).key; page = c.args.right.now.page }) c.left_part-half.ensures c.requires.same.0
    c.requires.same.1
    (more_entries_after g.P.Ground _ _ leads _ (too_many (length c.args.buffer.now) c.most_entries.result (length c.args.all.now)
    (g.P.Ground.geometry c.args.pages.now) c.most_entries.ensures c.requires.buffer c.if-all-most_entries.false))
    (key_behind c.args.all.now c.left_part-half.result no_entry h.inside)
    (written_stays g.P.Ground c.put_index-2.new.pages c.put_index-3.new.pages c.args.left.now.page.0 c.args.left.now.level c.args.left.now.file_no
    (take c.left_part-half.result c.args.all.now) (c.args.right.now.page.0 ∷ []) (c.args.right.now.page.0 ∷ [])
    (ap (λ (f : ℕ → Bool). f c.args.left.now.page.0) c.in_ok-put_index-2.ensures.held ∙ c.requires.held.0)
    (times_apart c.args.left.now.page.0 c.args.right.now.page.0 [] differ) c.in_ok-put_index-3.ensures.changes (c.in_ok-put_index-2.ensures.written told))
    (c.in_ok-put_index-3.ensures.written (g.P.Ground.leads_told _ _ c.put_index-2.ensures.leads told))
