use Rattle.std.proofs.Common.{◌≤◌, length, vec_capacity, arith}
use Rattle.meta_pages.proofs.RowLists.{put_found, put_new, room_full}
use Rattle.meta_pages.proofs.rows.put_row.Goals as goal

pub returns-in_err-insert-clause-room : goal.returns-in_err-insert-clause-room
returns-in_err-insert-clause-room g c = λ room.
    let full : vec_capacity c.args.rows.now ≤ length c.args.rows.now.items = omega (arith, c.in_err-insert.ensures.full, c.args.rows.now.ok.0) in
    absurd (room_full c.args.page c.args.value c.args.rows.now.items c.deref.result.now c.deref-2.result.now c.place_of-at.result _ c.deref.ensures.value c.deref-2.ensures.value c.place_of-at.ensures.value c.if-is_at.ensures.absent c.requires room full)

pub returns-then-is_at-clause-ok : goal.returns-then-is_at-clause-ok
returns-then-is_at-clause-ok g c =
    put_found c.args.page c.args.value c.args.rows.now.items c.deref.result.now c.deref-2.result.now c.place_of-at.result c.deref.ensures.value c.deref-2.ensures.value c.place_of-at.ensures.value c.if-is_at.ensures.there

pub returns-in_ok-insert-clause-ok : goal.returns-in_ok-insert-clause-ok
returns-in_ok-insert-clause-ok g c =
    rw c.in_ok-insert.ensures.items (put_new c.args.page c.args.value c.args.rows.now.items c.deref.result.now c.deref-2.result.now c.place_of-at.result c.deref.ensures.value c.deref-2.ensures.value c.place_of-at.ensures.value c.if-is_at.ensures.absent)
