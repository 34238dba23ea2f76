use Rattle.std.proofs.Common.{sym, ◌∙◌, ap}
use Rattle.std.specs.Prelude.{slice_index_or, List, None}
use Rattle.slotted_pages.specs.FilePage.{Slot}
use Rattle.file_bodies.proofs.Pages.{is_page, slots_are, mapped}
use Rattle.file_bodies.proofs.page.body_on.Goals as goal

pub returns-in-Some-clause-body : goal.returns-in-Some-clause-body
returns-in-Some-clause-body c = λ page. c.body.ensures ∙ ap (λ (x : List Slot). slice_index_or x c.args.slot None) (sym (slots_are c.args.page.now c.in-Some.view.page c.in-Some.ensures.found.1))

pub returns-in-Some-clause-none : goal.returns-in-Some-clause-none
returns-in-Some-clause-none c = λ never. absurd (never (is_page c.args.page.now c.in-Some.view.page c.in-Some.ensures.found.1))

pub returns-in-Some-clause-some : goal.returns-in-Some-clause-some
returns-in-Some-clause-some c = mapped _ c.body.result _ (c.body.ensures ∙ ap (λ (x : List Slot). slice_index_or x c.args.slot None) (sym (slots_are c.args.page.now c.in-Some.view.page c.in-Some.ensures.found.1)))
