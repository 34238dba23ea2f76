use Rattle.std.proofs.Common.{◌≡◌, ◌+◌, take}
use Rattle.trees.specs.Rows.{row_size}
use Rattle.tree_delete.proofs.cut.place.Given as goal

-- the position lies behind each tree so far
abbrev pub invariant-loop-index : goal.invariant-loop-index
invariant-loop-index l = row_size (take l.index l.row) + l.at ≡ l.pos
