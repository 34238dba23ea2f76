use Rattle.tree_insert.proofs.BelowRows.{BelowSoFar}
use Rattle.tree_insert.proofs.overwrite.row_below.Given as goal

abbrev pub invariant-loop-part : goal.invariant-loop-part
invariant-loop-part g l = BelowSoFar g.B.Ground l.fn.blocks l.blocks l.level l.least l.run l.part-index l.lens.items l.row.items
