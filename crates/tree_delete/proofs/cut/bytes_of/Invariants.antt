use Rattle.std.proofs.Common.{◌≡◌, take}
use Rattle.trees.specs.Rows.{row_size}
use Rattle.tree_delete.proofs.cut.bytes_of.Given as goal

abbrev pub invariant-loop-part : goal.invariant-loop-part
invariant-loop-part l = l.bytes ≡ row_size (take l.part-index l.row)
