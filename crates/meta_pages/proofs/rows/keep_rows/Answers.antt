use Rattle.std.proofs.Common.{sym, ◌∙◌, vec_capacity}
use Rattle.meta_pages.proofs.Keeping.{keeps_image, keeps_gone, room_here, never}
use Rattle.meta_pages.proofs.rows.keep_rows.Goals as goal
use Rattle.ex_base.proofs.Results.{if_no_error}

pub loop-page-preserved-else-is_err : goal.loop-page-preserved-else-is_err
loop-page-preserved-else-is_err c =
    keeps_image _ c.loop-page.committed.items c.put_row.new.rows.items _ c.loop-page.working.items c.pop.new.self.items c.in-Some.page _ (vec_capacity c.loop-page.committed) _ c.in-Some.image c.in-Some-image.image
    c.loop-page.invariant c.in-Some.ensures.items c.in-Some-image.is (if_no_error c.put_row.result (sym c.is_err.ensures.value ∙ c.if-is_err.false) c.put_row.ensures.ok) c.put_row.ensures.capacity

pub loop-page-preserved : goal.loop-page-preserved
loop-page-preserved c =
    keeps_gone _ c.loop-page.committed.items c.take_row.new.rows.items _ c.loop-page.working.items c.pop.new.self.items c.in-Some.page _ (vec_capacity c.loop-page.committed) _ c.in-Some.image
    c.loop-page.invariant c.in-Some.ensures.items c.in-None.is c.take_row.ensures.rows c.take_row.ensures.capacity

pub unreachable-requires : goal.unreachable-requires
unreachable-requires c =
    never c.put_row.result (c.put_row.ensures.room
    (room_here _ c.loop-page.committed.items _ c.loop-page.working.items c.pop.new.self.items c.in-Some.page _ (vec_capacity c.loop-page.committed) c.in-Some.image c.in-Some-image.image
    c.loop-page.invariant c.requires.room c.in-Some.ensures.items c.in-Some-image.is)) (sym c.is_err.ensures.value ∙ c.if-is_err.true)
