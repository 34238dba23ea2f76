use Rattle.std.proofs.Common.{◌+◌, ◌*◌}
use Rattle.trees.proofs.RowReads.{ReadSoFar}
use Rattle.trees.proofs.read.+read.Given as goal

abbrev pub decreases-read_tree : goal.decreases-read_tree
decreases-read_tree g l = 2 * l.level

abbrev pub decreases-read_row : goal.decreases-read_row
decreases-read_row g l = 2 * l.level + 1

abbrev pub invariant-read_row-loop-part : goal.invariant-read_row-loop-part
invariant-read_row-loop-part g l = ReadSoFar g.B.Ground l.fn.blocks l.blocks l.level l.least l.row l.pos l.fn.out l.out l.part-index l.at l.done
