use Rattle.slotted_pages.proofs.PageLaws.{spelled_reads}
use Rattle.slotted_pages.specs.Reads.{page_on}
use Rattle.slotted_pages.proofs.view.SlottedView.known.Goals as goal

pub invariant_of-result : goal.invariant_of-result
invariant_of-result c = spelled_reads c.args.page.now (page_on c.args.page.now) c.requires
