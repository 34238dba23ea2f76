use Rattle.std.proofs.Common.{◌≡◌, ◌-◌, ◌*◌, drop}
use Rattle.trees.specs.declared.width.Width.TheVariants.{Wide}
use Rattle.trees.specs.Node.{read_pairs}
use Rattle.history_items.specs.Reads.{are_good_pairs}
use Rattle.history_items.proofs.nodes.are_pairs.Given as goal

-- all are good exactly where those that are left are behind the last count
abbrev pub invariant-loop-i : goal.invariant-loop-i
invariant-loop-i l = are_good_pairs l.most 0 (read_pairs Wide l.n l.bytes) ≡ are_good_pairs l.most l.last (read_pairs Wide (l.n - l.i) (drop (12 * l.i) l.bytes))
