use Rattle.std.proofs.Common.{drop}
use Rattle.volume_model.specs.Parts.{bodies_from}
use Rattle.file_walk.specs.Objects.{StandBefore}
use Rattle.file_walk.proofs.Rows.{RowsTo}
use Rattle.file_walk.proofs.records.add_records.Given as goal

-- the records of the slots so far were added, in order of place
abbrev pub invariant-loop-slot : goal.invariant-loop-slot
invariant-loop-slot l = record {
  rows : RowsTo l.fn.records.items l.records.items (bodies_from l.page.0 0 l.view.page.slots) (bodies_from l.page.0 l.slot (drop l.slot l.view.page.slots));
  order : StandBefore l.fn.records.items l.page.0 0 → StandBefore l.records.items l.page.0 l.slot;
}
