use Rattle.std.proofs.Common.{◌+◌, ◌*◌, length}
use Rattle.compact.specs.Moves.{copies_of}
use Rattle.compact.proofs.Loop.{RowSoFar}
use Rattle.compact.proofs.walk.+moving.Given as goal

abbrev pub decreases-move_part : goal.decreases-move_part
decreases-move_part g l = 2 * l.level

abbrev pub decreases-move_row : goal.decreases-move_row
decreases-move_row g l = 2 * l.level + 1

abbrev pub invariant-move_row-loop-part : goal.invariant-move_row-loop-part
invariant-move_row-loop-part g l = RowSoFar g.B.Ground l.fn.blocks l.blocks l.dense (copies_of l.fn.moves) (copies_of l.moves) l.level l.row l.part-index l.made.items l.changed (length l.fn.buffer) (length l.buffer)
