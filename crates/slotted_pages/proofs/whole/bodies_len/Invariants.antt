use Rattle.std.proofs.Common.{◌≡◌, ◌≤◌, length, take}
use Rattle.slotted_pages.specs.FilePage.{bodies}
use Rattle.slotted_pages.specs.Whole.{slots_held}
use Rattle.slotted_pages.proofs.whole.bodies_len.Given as goal

abbrev pub invariant-loop-slot : goal.invariant-loop-slot
invariant-loop-slot l = record {
  len : l.len ≡ length (bodies (slots_held (take l.slot-index l.slots)));
  most : l.len ≤ l.most;
}
