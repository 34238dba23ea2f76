use Rattle.std.proofs.Common.{rules, arith, ◌-◌}
use Rattle.tree_insert.proofs.PlaceLaws.{read_most, step_back}
use Rattle.tree_insert.proofs.layout.run_of.Goals as goal

pub overflow_add-at : goal.overflow_add-at
overflow_add-at c =
    let le = read_most c.args.row.now (c.args.index - 1) in
    search rules

pub returns-then-plan-2-clause-at : goal.returns-then-plan-2-clause-at
returns-then-plan-2-clause-at c = omega (arith, step_back c.args.row.now c.args.index (c.requires.left c.if-plan-2.true) c.requires.index)
