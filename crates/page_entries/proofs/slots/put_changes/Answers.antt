use Rattle.std.proofs.Common.{◌≡◌, ◌<◌, ℕ, ◌+◌, ◌-◌, sym, ap, subst, ◌∙◌, arith}
use Rattle.ex_base.specs.Fields.{number_at}
use Rattle.slotted_pages.specs.FilePage.{Slot}
use Rattle.slotted_pages.specs.Whole.{slots_held, held}
use Rattle.page_entries.specs.Said.{changes_read}
use Rattle.page_entries.specs.Fronts.{ChangesAt, change_end}
use Rattle.page_entries.specs.Applying.{slots_after, slot_set}
use Rattle.page_entries.proofs.Changes.{step_here}
use Rattle.page_entries.proofs.SetSlots.{after_step}
use Rattle.page_entries.proofs.slots.put_changes.Goals as goal

pub loop-i-preserved : goal.loop-i-preserved
loop-i-preserved c =
    let n : ℕ = number_at 2 c.args.fields.now 4 in
    let lt : c.loop-i.i < number_at 2 c.args.fields.now 4 = omega (arith, c.loop-i-test.true, c.get_u16-i-end.ensures) in
    let here = step_here c.args.fields.now (number_at 2 c.args.fields.now 4) c.loop-i.i c.loop-i.invariant.here.0 c.loop-i.at lt c.loop-i.invariant.here.1 in
    let next : c.loop-i.at + (4 + c.get_u16-len.result) ≡ change_end c.args.fields.now c.loop-i.at = omega (arith, c.get_u16-len.ensures) in
    record {
      here = (number_at 2 c.args.fields.now c.loop-i.at + 1, subst (λ (k : ℕ). ChangesAt c.args.fields.now (number_at 2 c.args.fields.now c.loop-i.at + 1) (number_at 2 c.args.fields.now 4 - (c.loop-i.i + 1)) k) (sym next) here.1);
      same = ap (λ (k : ℕ). slots_after (changes_read c.args.fields.now (number_at 2 c.args.fields.now 4 - (c.loop-i.i + 1)) k) (slots_held c.set_slot.new.slots.items)) next
          ∙ ap (slots_after (changes_read c.args.fields.now (number_at 2 c.args.fields.now 4 - (c.loop-i.i + 1)) (change_end c.args.fields.now c.loop-i.at)))
          (c.in_ok-set_slot.ensures ∙ ap (λ (k : ℕ). slot_set k (held c.body_at.result) (slots_held c.loop-i.slots.items)) c.get_u16.ensures ∙ ap (λ (s : Slot). slot_set (number_at 2 c.args.fields.now c.loop-i.at) s (slots_held c.loop-i.slots.items)) c.body_at.ensures)
          ∙ sym (after_step c.args.fields.now (number_at 2 c.args.fields.now 4) c.loop-i.i c.loop-i.at (slots_held c.loop-i.slots.items) lt) ∙ c.loop-i.invariant.same;
    }
