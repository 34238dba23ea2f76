use Rattle.history_writes.proofs.Placing.{RowSoFar}
use Rattle.history_writes.proofs.pieces.place_children.Given as goal

abbrev pub invariant-loop-index : goal.invariant-loop-index
invariant-loop-index l = RowSoFar l.geometry l.node l.index l.last l.row.items
