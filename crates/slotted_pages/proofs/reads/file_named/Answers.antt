use Rattle.std.proofs.Common.{◌∙◌, sym, arith}
use Rattle.slotted_pages.specs.Reads.{page_on}
use Rattle.slotted_pages.proofs.PageLaws.{spelled_reads}
use Rattle.slotted_pages.proofs.ViewLaws.{file_read}
use Rattle.slotted_pages.proofs.reads.file_named.Goals as goal
use Rattle.slotted_pages.proofs.reads.file_named.Goals.{then-page-lt-HEAD_LEN-via-then-page-lt-HEAD_LEN, then-page-lt-HEAD_LEN-via-else-page-lt-HEAD_LEN+then-page-ne-FILE_PAGE}

pub returns-then-page-lt-HEAD_LEN-clause-none : goal.returns-then-page-lt-HEAD_LEN-clause-none
returns-then-page-lt-HEAD_LEN-clause-none c = λ is.
    let reads = spelled_reads c.args.page.now (page_on c.args.page.now) is in
    elim c.then-page-lt-HEAD_LEN.branch [
      | then-page-lt-HEAD_LEN-via-then-page-lt-HEAD_LEN w ↦ absurd (omega (arith, reads.long, w.if-page-lt-HEAD_LEN.true))
      | then-page-lt-HEAD_LEN-via-else-page-lt-HEAD_LEN+then-page-ne-FILE_PAGE w ↦ w.if-page-ne-FILE_PAGE.true reads.kind
    ]

pub returns-clause-some : goal.returns-clause-some
returns-clause-some c = file_read c.args.page.now ∙ sym c.get_u32.ensures
