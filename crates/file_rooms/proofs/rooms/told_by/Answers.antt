use Rattle.std.proofs.Common.{◌≡◌, ℕ, List, length, sym, ap, subst, ◌∙◌, arith}
use Rattle.std.specs.Prelude.{nat_le}
use Rattle.std.proofs.lemmas.Bool.{le-leb, lt-leb}
use Rattle.slotted_pages.specs.FilePage.{Slot, room_of as room_on}
use Rattle.slotted_pages.specs.Edits.{need_of}
use Rattle.file_bodies.proofs.Pages.{is_page, number_is, slots_are}
use Rattle.file_rooms.specs.Rooms.{new_len}
use Rattle.file_rooms.proofs.Vacant.{much_room, some_room, no_room}
use Rattle.file_rooms.proofs.rooms.told_by.Goals.{then-room, else-room+then-room-ge-LARGE_LEN, else-room+else-room-ge-LARGE_LEN}
use Rattle.file_rooms.proofs.rooms.told_by.Goals as goal

pub returns-clause-file : goal.returns-clause-file
returns-clause-file c = (is_page c.args.page.now c.in_ok-view.view.page c.in_ok-view.ensures.found.1, number_is c.args.page.now c.in_ok-view.view.page c.in_ok-view.ensures.found.1 ∙ sym c.file_no.ensures)

pub returns-clause-fits : goal.returns-clause-fits
returns-clause-fits c =
    let slots = c.in_ok-view.view.page.slots in
    let same = slots_are c.args.page.now c.in_ok-view.view.page c.in_ok-view.ensures.found.1 in
    let room = room_on (length c.args.page.now) slots in
    let is : c.room-room.result ≡ room = c.room-room.ensures ∙ ap (λ (n : ℕ). room_on n slots) c.in_ok-view.ensures.found.0 in
    subst (λ (s : List Slot). c.if-room.fits ≡ nat_le (need_of s new_len) (room_on (length c.args.page.now) s)) (sym same)
    (elim c.if-room.branch [
      | then-room w ↦ w.fits-is ∙ le-leb 40 c.room-room.result w.if-room.true ∙ much_room slots room (omega (arith, is, w.if-room.true))
      | else-room+then-room-ge-LARGE_LEN w ↦ w.fits-is ∙ w.has_vacant.ensures ∙ some_room slots room (omega (arith, is, w.if-room-ge-LARGE_LEN.true)) (omega (arith, is, w.if-room.false))
      | else-room+else-room-ge-LARGE_LEN w ↦ w.fits-is ∙ lt-leb 36 c.room-room.result w.if-room-ge-LARGE_LEN.false ∙ no_room slots room (omega (arith, is, w.if-room-ge-LARGE_LEN.false))
    ])
