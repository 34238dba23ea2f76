use Rattle.std.proofs.Common.{◌≡◌, ◌++◌}
use Rattle.versions.specs.Listed.{oids_of, rows_on, AreReadable}
use Rattle.versions.proofs.listing.list_slots.Given as goal

-- what is gathered and what the slots that are left give is what all of them give
abbrev pub invariant-loop-slot : goal.invariant-loop-slot
invariant-loop-slot l = record {
  gathered : l.initial.oids.items ++ oids_of (rows_on l.page.0 l.from l.view.page.slots) ≡ l.oids.items ++ oids_of (rows_on l.page.0 l.slot l.view.page.slots);
  readable : AreReadable (rows_on l.page.0 l.from l.view.page.slots) → AreReadable (rows_on l.page.0 l.slot l.view.page.slots);
}
