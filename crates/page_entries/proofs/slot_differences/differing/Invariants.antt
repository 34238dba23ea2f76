use Rattle.page_entries.proofs.SlotsDiffering.{WrittenTo}
use Rattle.page_entries.proofs.slot_differences.differing.Given as goal

abbrev pub invariant-loop-slot : goal.invariant-loop-slot
invariant-loop-slot l = WrittenTo l.old.page.slots l.new.page.slots l.slot l.count l.fields.items
