use Rattle.std.proofs.Common.{sym, subst, ◌∙◌}
use Rattle.slotted_pages.specs.FilePage.{SlotsOf}
use Rattle.slotted_pages.proofs.PageLaws.{page_read_is}
use Rattle.file_bodies.proofs.Pages.{number_is}
use Rattle.version_tree.proofs.descent.number_on.Goals as goal

pub returns-in-Some-clause-number : goal.returns-in-Some-clause-number
returns-in-Some-clause-number c = number_is c.args.page.now c.in-Some.view.page c.in-Some.ensures.found.1 ∙ sym c.file_no.ensures

pub returns-in-Some-clause-page : goal.returns-in-Some-clause-page
returns-in-Some-clause-page c = subst (SlotsOf c.args.page.now) (sym (page_read_is c.args.page.now c.in-Some.view.page c.in-Some.ensures.found.1)) c.in-Some.ensures.found.1
