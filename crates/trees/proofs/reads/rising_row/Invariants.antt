use Rattle.std.proofs.Common.{◌≡◌, vec_len, vec_capacity}
use Rattle.trees.proofs.Rising.{RowSoFar}
use Rattle.trees.proofs.reads.rising_row.Given as goal

abbrev pub invariant-loop-i : goal.invariant-loop-i
invariant-loop-i l = RowSoFar l.width l.n l.i l.last l.bytes l.row.items × (vec_len l.row ≡ l.i) × (vec_capacity l.row ≡ l.n)
