use Rattle.std.proofs.Common.{◌≡◌, take}
use Rattle.table_model.specs.Machines.{unmarked}
use Rattle.table_lists.proofs.names.unmarked.Given as goal

abbrev pub invariant-loop-bound : goal.invariant-loop-bound
invariant-loop-bound l = l.out.items ≡ unmarked (take l.bound-index l.names)
