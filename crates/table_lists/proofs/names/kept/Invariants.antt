use Rattle.std.proofs.Common.{◌≡◌, take}
use Rattle.table_model.specs.Machines.{kept}
use Rattle.table_lists.proofs.names.kept.Given as goal

abbrev pub invariant-loop-bound : goal.invariant-loop-bound
invariant-loop-bound l = l.out.items ≡ kept (take l.bound-index l.names)
