use Rattle.std.proofs.Common.{◌≡◌, take}
use Rattle.table_lists.proofs.names.with_bound.Given as goal

abbrev pub invariant-loop-bound : goal.invariant-loop-bound
invariant-loop-bound l = l.out.items ≡ take l.bound-index l.names
