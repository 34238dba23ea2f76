use Rattle.std.proofs.Common.{◌↔◌, ◌-◌, ◌*◌, drop}
use Rattle.trees.specs.Node.{pair_len, RiseFrom, read_pairs}
use Rattle.trees.proofs.reads.counts_rise.Given as goal

-- all counts rise exactly where those that are left rise from the last one
abbrev pub invariant-loop-i : goal.invariant-loop-i
invariant-loop-i l = RiseFrom 0 (read_pairs l.width l.n l.bytes) ↔ RiseFrom l.last (read_pairs l.width (l.n - l.i) (drop (pair_len l.width * l.i) l.bytes))
