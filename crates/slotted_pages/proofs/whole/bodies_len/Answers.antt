use Rattle.std.proofs.Common.{◌+◌, None, ap, length, arith}
use Rattle.slotted_pages.proofs.WholeLaws.{len_more, len_within}
use Rattle.slotted_pages.proofs.whole.bodies_len.Goals as goal

pub returns-then-more-most : goal.returns-then-more-most
returns-then-more-most c =
    omega (arith, ap length c.bytes_of-more.ensures, len_more c.args.slots.now c.loop-slot.slot-index (record { body = None }) c.loop-slot-test.true, len_within c.args.slots.now (c.loop-slot.slot-index + 1))

pub loop-slot-preserved : goal.loop-slot-preserved
loop-slot-preserved c = record {
  len = omega (arith, c.loop-slot.invariant.len, ap length c.bytes_of-more.ensures, len_more c.args.slots.now c.loop-slot.slot-index (record { body = None }) c.loop-slot-test.true);
  most = omega arith;
}
