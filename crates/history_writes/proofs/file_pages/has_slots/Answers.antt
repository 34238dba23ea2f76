use Rattle.std.proofs.Common.{length, sym, ap, ◌∙◌}
use Rattle.slotted_pages.specs.FilePage.{Slot}
use Rattle.std.specs.Prelude.{List}
use Rattle.history_writes.proofs.Laying.{slots_are, some_test}
use Rattle.history_writes.proofs.file_pages.has_slots.Goals as goal

pub returns-in-Some : goal.returns-in-Some
returns-in-Some c =
    some_test c.slots.result _ (c.slots.ensures ∙ ap (λ (s : List Slot). length s) (sym (slots_are c.args.page.now c.in-Some.view.page c.in-Some.ensures.found.1)))
