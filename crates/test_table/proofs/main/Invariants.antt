use Rattle.table_model.specs.Machines.{IsMachine}
use Rattle.test_table.proofs.main.Given as goal

abbrev pub invariant-loop-line : goal.invariant-loop-line
invariant-loop-line l = IsMachine l.machine
