use Rattle.std.proofs.Common.{length, ap, sym, ◌∙◌, arith}
use Rattle.slotted_pages.specs.FilePage.{FilePage}
use Rattle.slotted_pages.proofs.PageLaws.{page_read_is}
use Rattle.file_walk.proofs.Rows.{view_is, shows_file}
use Rattle.file_walk.proofs.records.checked.Goals.{else-slots-gt0-via-then-slots-gt0+else-file_no, else-slots-gt0-via-else-slots-gt0}
use Rattle.file_walk.proofs.records.checked.Goals as goal

pub returns-then-file_no-clause-some : goal.returns-then-file_no-clause-some
returns-then-file_no-clause-some c =
    shows_file c.args.bytes.now c.in_ok-view.view.page c.args.file_no c.in_ok-view.ensures.found.1 (omega (arith, c.if-slots-gt0.true, c.slots.ensures)) (sym c.file_no.ensures ∙ c.if-file_no.true)

pub returns-then-file_no-clause-view : goal.returns-then-file_no-clause-view
returns-then-file_no-clause-view c = view_is c.args.bytes.now c.in_ok-view.view c.in_ok-view.ensures.found.0 c.in_ok-view.ensures.found.1

pub returns-else-slots-gt0-clause-none : goal.returns-else-slots-gt0-clause-none
returns-else-slots-gt0-clause-none c = λ shows.
    let same = page_read_is c.args.bytes.now c.in_ok-view.view.page c.in_ok-view.ensures.found.1 in
    elim c.else-slots-gt0.branch [
      | else-slots-gt0-via-then-slots-gt0+else-file_no w ↦ w.if-file_no.false (w.file_no.ensures ∙ sym (ap (λ (p : FilePage). p.file_no) same) ∙ shows.number)
      | else-slots-gt0-via-else-slots-gt0 w ↦ absurd (omega (arith, w.if-slots-gt0.false, c.slots.ensures, ap (λ (p : FilePage). length p.slots) same, shows.some))
    ]
