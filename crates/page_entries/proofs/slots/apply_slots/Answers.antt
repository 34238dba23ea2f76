use Rattle.std.proofs.Common.{◌≡◌, ℕ, List, length, take, sym, ap, ◌∙◌, arith, rules}
use Rattle.std.proofs.lemmas.List.{take_at}
use Rattle.ex_base.specs.Fields.{number_at}
use Rattle.slotted_pages.specs.declared.whole.SlotBody.{SlotBody}
use Rattle.slotted_pages.specs.FilePage.{file_page}
use Rattle.slotted_pages.specs.Edits.{trimmed}
use Rattle.slotted_pages.specs.Whole.{slots_held}
use Rattle.page_entries.specs.Said.{changes_read}
use Rattle.page_entries.specs.Applying.{slots_after}
use Rattle.page_entries.proofs.SetSlots.{Left, left_fits, left_room, left_applies, applying}
use Rattle.page_entries.proofs.slots.apply_slots.Goals as goal

pub put_changes-requires-clause-head : goal.put_changes-requires-clause-head
put_changes-requires-clause-head c = (applying (length c.args.old.now) c.args.fields.now c.requires).long

pub put_changes-requires-clause-changes : goal.put_changes-requires-clause-changes
put_changes-requires-clause-changes c = (applying (length c.args.old.now) c.args.fields.now c.requires).here

pub write_slots-requires-clause-some : goal.write_slots-requires-clause-some
write_slots-requires-clause-some c =
    let l : Left c.args.old.now c.in-Some.view.page (changes_read c.args.fields.now (number_at 2 c.args.fields.now 4) 6) c.deref-2.result.now c.live_count-count.result = record {
      page = c.in-Some.ensures.found.1;
      fits = (applying (length c.args.old.now) c.args.fields.now c.requires).fits;
      left = ap (λ (t : List SlotBody). slots_held (take c.live_count-count.result t)) (c.deref-2.ensures.value ∙ sym c.deref.ensures.value) ∙ c.live_count-count.ensures.live
          ∙ ap trimmed (ap slots_held c.deref.ensures.value ∙ c.in_ok-put_changes.ensures ∙ ap (slots_after (changes_read c.args.fields.now (number_at 2 c.args.fields.now 4) 6)) c.in_ok-slots.ensures);
    } in
    left_fits _ _ _ _ _ l

pub returns-then-not-write_slots-clause-refused : goal.returns-then-not-write_slots-clause-refused
returns-then-not-write_slots-clause-refused c = λ a.
    let l : Left c.args.old.now c.in-Some.view.page (changes_read c.args.fields.now (number_at 2 c.args.fields.now 4) 6) c.deref-2.result.now c.live_count-count.result = record {
      page = c.in-Some.ensures.found.1;
      fits = (applying (length c.args.old.now) c.args.fields.now c.requires).fits;
      left = ap (λ (t : List SlotBody). slots_held (take c.live_count-count.result t)) (c.deref-2.ensures.value ∙ sym c.deref.ensures.value) ∙ c.live_count-count.ensures.live
          ∙ ap trimmed (ap slots_held c.deref.ensures.value ∙ c.in_ok-put_changes.ensures ∙ ap (slots_after (changes_read c.args.fields.now (number_at 2 c.args.fields.now 4) 6)) c.in_ok-slots.ensures);
    } in
    let room = left_room _ _ _ _ _ l a in
    let yes = c.write_slots.ensures.fits.1 (omega (arith, room, c.deref_mut.ensures.len, c.in_ok-page.ensures.len)) in
    let not = c.if-not-write_slots.true in absurd cc

pub returns-clause-applied : goal.returns-clause-applied
returns-clause-applied c =
    let l : Left c.args.old.now c.in-Some.view.page (changes_read c.args.fields.now (number_at 2 c.args.fields.now 4) 6) c.deref-2.result.now c.live_count-count.result = record {
      page = c.in-Some.ensures.found.1;
      fits = (applying (length c.args.old.now) c.args.fields.now c.requires).fits;
      left = ap (λ (t : List SlotBody). slots_held (take c.live_count-count.result t)) (c.deref-2.ensures.value ∙ sym c.deref.ensures.value) ∙ c.live_count-count.ensures.live
          ∙ ap trimmed (ap slots_held c.deref.ensures.value ∙ c.in_ok-put_changes.ensures ∙ ap (slots_after (changes_read c.args.fields.now (number_at 2 c.args.fields.now 4) 6)) c.in_ok-slots.ensures);
    } in
    let yes = c.write_slots.ensures.fits.0 (search rules) in
    let long : length c.deref_mut.result.now ≡ length c.args.old.now = omega (arith, c.deref_mut.ensures.len, c.in_ok-page.ensures.len) in
    left_applies c.args.old.now c.in-Some.view.page (changes_read c.args.fields.now (number_at 2 c.args.fields.now 4) 6) c.deref-2.result.now c.live_count-count.result c.from_vec.result l (omega (arith, yes, long))
    (c.from_vec.ensures ∙ take_at c.write_slots.new.image _ c.in_ok-page.page.len (omega (arith, c.write_slots.auto.image, c.deref_mut.ensures.len)) ∙ c.write_slots.ensures.written (search rules)
    ∙ ap (λ (k : ℕ). file_page k (record { file_no = c.file_no.result; slots = slots_held (take c.live_count-count.result c.deref-2.result.now) })) long
    ∙ ap (λ (k : ℕ). file_page (length c.args.old.now) (record { file_no = k; slots = slots_held (take c.live_count-count.result c.deref-2.result.now) })) c.file_no.ensures)
