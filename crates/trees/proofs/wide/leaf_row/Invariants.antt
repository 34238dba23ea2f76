use Rattle.std.proofs.Common.{◌≡◌, vec_len, vec_capacity}
use Rattle.trees.proofs.LeafRises.{FitRow}
use Rattle.trees.proofs.wide.leaf_row.Given as goal

abbrev pub invariant-loop-i : goal.invariant-loop-i
invariant-loop-i l = FitRow l.full l.n l.i l.last l.bytes l.row.items × (vec_len l.row ≡ l.i) × (vec_capacity l.row ≡ l.n)
