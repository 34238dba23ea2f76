use Rattle.tree_insert.proofs.PlaceLaws.{Passed}
use Rattle.tree_insert.proofs.layout.tree_at.Given as goal

-- the position lies behind each tree so far
abbrev pub invariant-loop-index : goal.invariant-loop-index
invariant-loop-index l = Passed l.row l.pos l.index l.at
