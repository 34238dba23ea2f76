use Rattle.std.proofs.Common.{◌↔◌, drop}
use Rattle.trees.specs.Rows.{AreHalfFull}
use Rattle.trees.proofs.rows.are_filled.Given as goal

-- all are half full exactly where those that are left are
abbrev pub invariant-loop-part : goal.invariant-loop-part
invariant-loop-part l = AreHalfFull l.full l.row ↔ AreHalfFull l.full (drop l.part-index l.row)
