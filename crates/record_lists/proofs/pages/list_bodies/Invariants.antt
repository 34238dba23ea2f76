use Rattle.std.proofs.Common.{drop}
use Rattle.file_bodies.specs.Bodies.{bodies_from}
use Rattle.record_lists.proofs.Rows.{ListsTo}
use Rattle.record_lists.proofs.pages.list_bodies.Given as goal

-- the records of the slots so far are listed
abbrev pub invariant-loop-slot : goal.invariant-loop-slot
invariant-loop-slot l = ListsTo l.fn.records.items l.records.items (bodies_from l.page.0 0 l.view.page.slots) (bodies_from l.page.0 l.slot (drop l.slot l.view.page.slots))
