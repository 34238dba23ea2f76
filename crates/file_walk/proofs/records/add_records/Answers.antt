use Rattle.std.proofs.Common.{◌≡◌, ◌<◌, ◌+◌, ℕ, List, [], ◌∷◌, ◌++◌, length, drop, Some, None, ap, sym, ◌∙◌, arith}
use Rattle.std.proofs.lemmas.List.{drop_all, drop_more}
use Rattle.std.specs.Prelude.{slice_index_or}
use Rattle.slotted_pages.specs.FilePage.{Slot}
use Rattle.volume_model.specs.Parts.{bodies_from}
use Rattle.file_walk.specs.declared.records.Standing.{Standing}
use Rattle.file_walk.proofs.Order.{stand_page, stand_push, stand_slot}
use Rattle.file_walk.proofs.Rows.{rows_start, rows_step, rows_end, rows_bad, rows_as, slot_vacant, slot_live, row_at}
use Rattle.file_walk.proofs.records.add_records.Goals as goal

pub loop-slot-init : goal.loop-slot-init
loop-slot-init c = record { rows = rows_start c.args.records.now.items (bodies_from c.args.page.0 0 c.args.view.now.page.slots); order = λ is. is }

here : (slots : List Slot) (i : ℕ) (s : Slot) → i < length slots → s ≡ slice_index_or slots i None → drop i slots ≡ s ∷ drop (i + 1) slots
here slots i s lt is = drop_more slots i None lt ∙ ap (λ (t : Slot). t ∷ drop (i + 1) slots) (sym is)

pub loop-slot-preserved-in_default : goal.loop-slot-preserved-in_default
loop-slot-preserved-in_default c = record {
  rows = rows_as c.args.records.now.items c.loop-slot.records.items (bodies_from c.args.page.0 0 c.args.view.now.page.slots) _ _
      (slot_vacant c.args.page.0 c.loop-slot.slot c.args.view.now.page.slots (here c.args.view.now.page.slots c.loop-slot.slot None (omega (arith, c.loop-slot-test.true, c.slots-slot-end.ensures)) c.in_default.ensures)) c.loop-slot.invariant.rows;
  order = λ is. stand_slot c.loop-slot.records.items c.args.page.0 c.loop-slot.slot (c.loop-slot.invariant.order is);
}

pub returns-in-None-clause-bad : goal.returns-in-None-clause-bad
returns-in-None-clause-bad c = λ e good.
    let live = slot_live c.args.page.0 c.loop-slot.slot c.in-Some.body.now c.args.view.now.page.slots (here c.args.view.now.page.slots c.loop-slot.slot (Some c.in-Some.body.now) (omega (arith, c.loop-slot-test.true, c.slots-slot-end.ensures)) c.in-Some.ensures) in
    rows_bad c.args.records.now.items c.loop-slot.records.items (bodies_from c.args.page.0 0 c.args.view.now.page.slots) (row_at c.args.page.0 c.loop-slot.slot c.in-Some.body.now ∷ []) _
    (rows_as c.args.records.now.items c.loop-slot.records.items (bodies_from c.args.page.0 0 c.args.view.now.page.slots) _ _ live c.loop-slot.invariant.rows)
    (λ one. c.in-None.ensures.none _ one.0) good

pub loop-slot-preserved : goal.loop-slot-preserved
loop-slot-preserved c =
    let live = slot_live c.args.page.0 c.loop-slot.slot c.in-Some.body.now c.args.view.now.page.slots (here c.args.view.now.page.slots c.loop-slot.slot (Some c.in-Some.body.now) (omega (arith, c.loop-slot-test.true, c.slots-slot-end.ensures)) c.in-Some.ensures) in
    record {
      rows = rows_step c.args.records.now.items c.loop-slot.records.items c.push.new.self.items (bodies_from c.args.page.0 0 c.args.view.now.page.slots) (row_at c.args.page.0 c.loop-slot.slot c.in-Some.body.now ∷ []) _
          (rows_as c.args.records.now.items c.loop-slot.records.items (bodies_from c.args.page.0 0 c.args.view.now.page.slots) _ _ live c.loop-slot.invariant.rows)
          (record {
            good = (c.in-Some-standing_in.ensures.good, tt);
            records = c.in_ok-push-in-Some-standing_in.ensures.items ∙ ap (λ (f : Standing). c.loop-slot.records.items ++ (f ∷ [])) c.in-Some-standing_in.ensures.found;
          });
      order = λ is. stand_push c.loop-slot.records.items c.push.new.self.items c.in-Some-standing_in.standing c.args.page.0 c.loop-slot.slot
          (ap (λ (f : Standing). f.linked.place) c.in-Some-standing_in.ensures.found) c.in_ok-push-in-Some-standing_in.ensures.items (c.loop-slot.invariant.order is);
    }

pub returns-clause-good : goal.returns-clause-good
returns-clause-good c = λ e.
    rows_end c.args.records.now.items c.loop-slot.records.items (bodies_from c.args.page.0 0 c.args.view.now.page.slots)
    (rows_as c.args.records.now.items c.loop-slot.records.items (bodies_from c.args.page.0 0 c.args.view.now.page.slots) _ _
    (ap (bodies_from c.args.page.0 c.loop-slot.slot) (drop_all c.loop-slot.slot c.args.view.now.page.slots (omega (arith, c.loop-slot-test.false, c.slots-slot-end.ensures)))) c.loop-slot.invariant.rows)

pub returns-clause-order : goal.returns-clause-order
returns-clause-order c = λ e is. stand_page c.loop-slot.records.items c.args.page.0 c.loop-slot.slot (c.loop-slot.invariant.order is)
