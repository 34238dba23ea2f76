use Rattle.std.proofs.Common.{◌∙◌, length, arith}
use Rattle.slotted_pages.proofs.WholeLaws.{Step, fits_here, slot_written}
use Rattle.slotted_pages.proofs.whole.write_bodies.Goals as goal

pub put_bytes-requires : goal.put_bytes-requires
put_bytes-requires c =
    let s : Step c.args.slots.now (length c.args.image.now) c.loop-i.at c.loop-i.i c.bytes_of-body.result.now = record { lt = c.loop-i-test.true; small = c.requires.size; room = c.requires.room; begins = c.loop-i.invariant.at; is = c.bytes_of-body.ensures } in
    omega (arith, (fits_here _ _ _ _ _ s).0, c.loop-i.auto.image)

pub write_field-requires-clause-at : goal.write_field-requires-clause-at
write_field-requires-clause-at c =
    let s : Step c.args.slots.now (length c.args.image.now) c.loop-i.at c.loop-i.i c.bytes_of-body.result.now = record { lt = c.loop-i-test.true; small = c.requires.size; room = c.requires.room; begins = c.loop-i.invariant.at; is = c.bytes_of-body.ensures } in
    omega (arith, (fits_here _ _ _ _ _ s).0, c.requires.size)

pub write_field-requires-clause-room : goal.write_field-requires-clause-room
write_field-requires-clause-room c =
    let s : Step c.args.slots.now (length c.args.image.now) c.loop-i.at c.loop-i.i c.bytes_of-body.result.now = record { lt = c.loop-i-test.true; small = c.requires.size; room = c.requires.room; begins = c.loop-i.invariant.at; is = c.bytes_of-body.ensures } in
    omega (arith, (fits_here _ _ _ _ _ s).1, c.loop-i.auto.image, c.put_bytes.auto.bytes, c.loop-i-test.true)

pub write_field-requires-clause-len : goal.write_field-requires-clause-len
write_field-requires-clause-len c =
    let s : Step c.args.slots.now (length c.args.image.now) c.loop-i.at c.loop-i.i c.bytes_of-body.result.now = record { lt = c.loop-i-test.true; small = c.requires.size; room = c.requires.room; begins = c.loop-i.invariant.at; is = c.bytes_of-body.ensures } in
    omega (arith, (fits_here _ _ _ _ _ s).0, c.requires.size)

pub overflow_add-at : goal.overflow_add-at
overflow_add-at c =
    let s : Step c.args.slots.now (length c.args.image.now) c.loop-i.at c.loop-i.i c.bytes_of-body.result.now = record { lt = c.loop-i-test.true; small = c.requires.size; room = c.requires.room; begins = c.loop-i.invariant.at; is = c.bytes_of-body.ensures } in
    omega (arith, (fits_here _ _ _ _ _ s).0, c.requires.size)

pub loop-i-preserved : goal.loop-i-preserved
loop-i-preserved c =
    let s : Step c.args.slots.now (length c.args.image.now) c.loop-i.at c.loop-i.i c.bytes_of-body.result.now = record { lt = c.loop-i-test.true; small = c.requires.size; room = c.requires.room; begins = c.loop-i.invariant.at; is = c.bytes_of-body.ensures } in
    let both = slot_written _ _ c.args.file_no _ _ _ _ _ _ s c.requires.some c.loop-i.invariant.image c.put_bytes.ensures (c.put_bytes.auto.bytes ∙ c.loop-i.auto.image) c.write_field.ensures in
    record { image = both.0; at = both.1 }
