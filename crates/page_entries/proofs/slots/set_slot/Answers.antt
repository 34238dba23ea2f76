use Rattle.std.proofs.Common.{List, ◌<◌, length, ap, ◌∙◌, arith}
use Rattle.slotted_pages.specs.declared.whole.SlotBody.{SlotBody}
use Rattle.slotted_pages.specs.Whole.{held, slots_held}
use Rattle.page_entries.specs.Applying.{slot_set}
use Rattle.page_entries.proofs.SetSlots.{pushed_none, set_held}
use Rattle.page_entries.proofs.slots.set_slot.Goals as goal

pub loop-slots-preserved : goal.loop-slots-preserved
loop-slots-preserved c =
    ap (λ (t : List SlotBody). slot_set c.args.slot (held c.args.body.now) (slots_held t)) c.in_ok-push.ensures.items
    ∙ pushed_none c.args.slot (held c.args.body.now) c.loop-slots.slots.items (omega (arith, c.loop-slots-test.true, c.len.ensures)) ∙ c.loop-slots.invariant

pub returns : goal.returns
returns c =
    let lt : c.args.slot < length c.loop-slots.slots.items = omega (arith, c.loop-slots-test.false, c.len.ensures) in
    set_held c.loop-slots.slots.items c.args.slot c.args.body.now lt ∙ c.loop-slots.invariant
