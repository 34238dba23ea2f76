use Rattle.std.proofs.Common.{◌-◌, take}
use Rattle.std.specs.List.{AllZip}
use Rattle.history_plans.specs.Plans.{pages_at}
use Rattle.history_dump.specs.Items.{IsNumbered}
use Rattle.history_dump.proofs.node.number_pairs.Given as goal

abbrev pub invariant-loop-index : goal.invariant-loop-index
invariant-loop-index l = AllZip (IsNumbered (pages_at (l.node.level - 1) l.plan)) (take l.index l.node.pairs) l.pairs.items
