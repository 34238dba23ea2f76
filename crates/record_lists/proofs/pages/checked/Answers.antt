use Rattle.std.proofs.Common.{arith, ap, length, sym, ◌∙◌}
use Rattle.file_bodies.proofs.Pages.{number_is, slots_are, viewed_is}
use Rattle.record_lists.proofs.pages.checked.Goals.{then-slots-eq0-via-then-slots-eq0, then-slots-eq0-via-else-slots-eq0+then-file_no}
use Rattle.record_lists.proofs.pages.checked.Goals as goal

pub returns-then-slots-eq0-clause-sound : goal.returns-then-slots-eq0-clause-sound
returns-then-slots-eq0-clause-sound c = λ of.
    elim c.then-slots-eq0.branch [
      | then-slots-eq0-via-then-slots-eq0 w ↦ absurd (omega (arith, of.some, w.if-slots-eq0.true, c.slots.ensures, ap length (slots_are c.args.bytes.now c.in-Some.view.page c.in-Some.ensures.found.1)))
      | then-slots-eq0-via-else-slots-eq0+then-file_no w ↦ w.if-file_no.true (w.file_no.ensures ∙ sym (number_is c.args.bytes.now c.in-Some.view.page c.in-Some.ensures.found.1) ∙ of.number)
    ]

pub returns-clause-view : goal.returns-clause-view
returns-clause-view c = viewed_is c.args.bytes.now c.in-Some.view c.in-Some.ensures.found.0 c.in-Some.ensures.found.1
