use Rattle.slotted_pages.proofs.PageLaws.{page_read_is}
use Rattle.slotted_pages.proofs.slots_of_a_page.Goals as goal

pub returns : goal.returns
returns c = page_read_is
