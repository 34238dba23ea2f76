use Rattle.std.proofs.Common.{sym, ap, ◌∙◌, arith, length}
use Rattle.file_bodies.proofs.Pages.{is_page, slots_are, number_is, viewed_is, page_is_of}
use Rattle.ex_base.specs.Seen.{file_page_seen}
use Rattle.file_bodies.proofs.Blame.{blames_page, blames_foreign}
use Rattle.file_bodies.proofs.page.page_checked.Goals as goal

pub returns-then-slots-eq0-clause-err : goal.returns-then-slots-eq0-clause-err
returns-then-slots-eq0-clause-err c = λ of. absurd (omega (arith, of.some, ap length (slots_are c.args.bytes.now c.in-Some.view.page c.in-Some.ensures.found.1)))

pub returns-then-found-file_no-clause-err : goal.returns-then-found-file_no-clause-err
returns-then-found-file_no-clause-err c = λ of. c.if-found-file_no.true (c.file_no-found.ensures ∙ sym (number_is c.args.bytes.now c.in-Some.view.page c.in-Some.ensures.found.1) ∙ of.number)

pub returns-clause-ok : goal.returns-clause-ok
returns-clause-ok c = page_is_of c.args.bytes.now c.in-Some.view.page c.args.file_no c.in-Some.ensures.found.1 (sym c.file_no-found.ensures ∙ c.if-found-file_no.false) (λ none. c.if-slots-eq0.false (c.slots.ensures ∙ none))

pub returns-clause-view : goal.returns-clause-view
returns-clause-view c = viewed_is c.args.bytes.now c.in-Some.view c.in-Some.ensures.found.0 c.in-Some.ensures.found.1

pub returns-then-slots-eq0-clause-fault : goal.returns-then-slots-eq0-clause-fault
returns-then-slots-eq0-clause-fault c = λ g held area.
    blames_page g held c.args.bytes.now c.args.file_no c.args.page c.no_page-then-slots-eq0.result area
    (λ has. absurd (omega (arith, has.some, ap length (slots_are c.args.bytes.now c.in-Some.view.page c.in-Some.ensures.found.1)))) c.no_page-then-slots-eq0.ensures.is

pub returns-then-found-file_no-clause-fault : goal.returns-then-found-file_no-clause-fault
returns-then-found-file_no-clause-fault c = λ g held area.
    let number = number_is c.args.bytes.now c.in-Some.view.page c.in-Some.ensures.found.1 in
    blames_foreign g held c.args.bytes.now c.args.file_no c.args.page c.file_page.result c.file_page-then-found-file_no.result area
    (record { spelled = is_page c.args.bytes.now c.in-Some.view.page c.in-Some.ensures.found.1; some = omega (arith, ap length (slots_are c.args.bytes.now c.in-Some.view.page c.in-Some.ensures.found.1), c.slots.ensures, c.if-slots-eq0.false) })
    (λ same. c.if-found-file_no.true (c.file_no-found.ensures ∙ sym number ∙ same)) c.file_page.ensures (c.file_page-then-found-file_no.ensures ∙ ap file_page_seen (c.file_no-found.ensures ∙ sym number))
