use Rattle.std.proofs.Common.{sym}
use Rattle.meta_pages.proofs.RowLists.{found_at, nowhere}
use Rattle.meta_pages.proofs.rows.find_row.Goals as goal

pub returns-then-is_at : goal.returns-then-is_at
returns-then-is_at g c = sym (found_at c.args.page c.args.rows.now c.place_of-at.result _ c.requires c.place_of-at.ensures.value c.if-is_at.ensures.there)

pub returns-else-is_at : goal.returns-else-is_at
returns-else-is_at g c = sym (nowhere c.args.page c.args.rows.now c.place_of-at.result c.requires c.place_of-at.ensures.value c.if-is_at.ensures.absent)
