use Rattle.std.proofs.Common.{◌≡◌, ℕ, ◌-◌}
use Rattle.ex_base.specs.Fields.{number_at}
use Rattle.slotted_pages.specs.Whole.{slots_held}
use Rattle.page_entries.specs.Said.{changes_read}
use Rattle.page_entries.specs.Fronts.{ChangesAt}
use Rattle.page_entries.specs.Applying.{slots_after}
use Rattle.page_entries.proofs.slots.put_changes.Given as goal

-- the changes that are left give what all of them do
abbrev pub invariant-loop-i : goal.invariant-loop-i
invariant-loop-i l = record {
  here : (least : ℕ) × ChangesAt l.fields least (number_at 2 l.fields 4 - l.i) l.at;
  same : slots_after (changes_read l.fields (number_at 2 l.fields 4 - l.i) l.at) (slots_held l.slots.items) ≡ slots_after (changes_read l.fields (number_at 2 l.fields 4) 6) (slots_held l.fn.slots.items);
}
