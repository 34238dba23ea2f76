use Rattle.meta_pages.proofs.RowLists.{taken_found, taken_none}
use Rattle.meta_pages.proofs.rows.take_row.Goals as goal

pub returns-then-is_at-clause-rows : goal.returns-then-is_at-clause-rows
returns-then-is_at-clause-rows g c =
    rw c.remove.ensures.items (taken_found c.args.page c.args.rows.now.items c.deref.result.now c.deref-2.result.now c.remove.result.1 c.place_of-at.result c.deref.ensures.value c.deref-2.ensures.value c.place_of-at.ensures.value c.if-is_at.ensures.there)

pub returns-else-is_at-clause-rows : goal.returns-else-is_at-clause-rows
returns-else-is_at-clause-rows g c =
    taken_none c.args.page c.args.rows.now.items c.deref.result.now c.deref-2.result.now c.place_of-at.result c.deref.ensures.value c.deref-2.ensures.value c.place_of-at.ensures.value c.if-is_at.ensures.absent
