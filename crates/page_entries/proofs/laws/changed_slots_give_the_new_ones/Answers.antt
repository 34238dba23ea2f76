use Rattle.page_entries.proofs.ChangedSlots.{changed}
use Rattle.page_entries.proofs.laws.changed_slots_give_the_new_ones.Goals as goal

pub returns : goal.returns
returns c = changed
