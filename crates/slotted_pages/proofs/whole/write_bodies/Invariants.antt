use Rattle.std.proofs.Common.{◌≡◌, ◌+◌, length, take}
use Rattle.slotted_pages.specs.FilePage.{bodies}
use Rattle.slotted_pages.specs.Whole.{slots_held, filled_page}
use Rattle.slotted_pages.proofs.whole.write_bodies.Given as goal

-- the slots so far are written
abbrev pub invariant-loop-i : goal.invariant-loop-i
invariant-loop-i l = record {
  image : l.image ≡ filled_page (length l.fn.image) l.file_no (length l.slots) (slots_held (take l.i l.slots));
  at : l.at ≡ 16 + length (bodies (slots_held (take l.i l.slots)));
}
