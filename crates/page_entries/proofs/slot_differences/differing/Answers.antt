use Rattle.std.proofs.Common.{ℕ, List, ◌≤◌, length, sym, ap, ◌∙◌, arith, Bor}
use Rattle.std.specs.Option.{option_map}
use Rattle.std.proofs.lemmas.List.{take_at}
use Rattle.ex_base.specs.Bytes.{written}
use Rattle.ex_base.specs.Fields.{two_bytes}
use Rattle.slotted_pages.specs.FilePage.{body_of}
use Rattle.page_entries.proofs.SlotsDiffering.{short_body, written_first, written_same, written_more, written_all}
use Rattle.page_entries.proofs.slot_differences.differing.Goals as goal
use Rattle.page_entries.proofs.slot_differences.differing.Goals.{then-not-is_same+in_ok-push_change, else-not-is_same}

pub push_change-requires : goal.push_change-requires
push_change-requires c = omega (arith, ap length (c.bytes_of.ensures ∙ ap body_of c.body-body.ensures), short_body c.args.new.now.page.slots c.loop-slot.slot, c.requires)

pub loop-slot-init : goal.loop-slot-init
loop-slot-init c = written_first c.args.old.now.page.slots c.args.new.now.page.slots c.in_ok-fields.fields.items (c.in_ok-fields.ensures.items_if_clones_equal (λ y same. same))

pub loop-slot-preserved : goal.loop-slot-preserved
loop-slot-preserved c =
    let more : length c.args.old.now.page.slots ≤ c.loop-slot.slot → length c.args.new.now.page.slots ≤ c.loop-slot.slot → ⊥ = λ p q. omega (arith, p, q, c.loop-slot-test.true, c.max-slot-end.ensures, c.slots.ensures, c.slots-2.ensures) in
    elim c.if-not-is_same.branch [
      | then-not-is_same+in_ok-push_change w ↦ rw w.fields-is (rw w.count-is
          (written_more c.args.old.now.page.slots c.args.new.now.page.slots c.loop-slot.slot c.loop-slot.count c.loop-slot.fields.items _ _ _ more c.body.ensures c.body-body.ensures (sym c.is_same.ensures ∙ w.if-not-is_same.true) c.loop-slot.invariant
          (w.in_ok-push_change.ensures (option_map (λ (body : Bor (List ℕ)). body.now) c.body-body.result) (sym w.bytes_of.ensures))))
      | else-not-is_same w ↦ rw w.fields-is (rw w.count-is
          (written_same c.args.old.now.page.slots c.args.new.now.page.slots c.loop-slot.slot c.loop-slot.count c.loop-slot.fields.items _ _ more c.body.ensures c.body-body.ensures (sym c.is_same.ensures ∙ w.if-not-is_same.false) c.loop-slot.invariant))
    ]

pub returns : goal.returns
returns c =
    take_at c.put_u16.new.bytes _ c.loop-slot.fields.len (omega (arith, c.put_u16.auto.bytes, c.deref_mut.ensures.len)) ∙ c.put_u16.ensures ∙ ap (λ (t : List ℕ). written t 4 (two_bytes c.loop-slot.count)) c.deref_mut.ensures.value
    ∙ written_all c.args.old.now.page.slots c.args.new.now.page.slots c.loop-slot.slot c.loop-slot.count c.loop-slot.fields.items (omega (arith, c.loop-slot-test.false, c.max-slot-end.ensures, c.slots.ensures, c.slots-2.ensures)) (omega (arith, c.loop-slot-test.false, c.max-slot-end.ensures, c.slots.ensures, c.slots-2.ensures)) c.loop-slot.invariant
