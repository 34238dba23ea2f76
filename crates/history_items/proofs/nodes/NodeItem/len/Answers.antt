use Rattle.std.proofs.Common.{sym, ap, ◌∙◌, length, drop}
use Rattle.ex_base.specs.Fields.{number_at}
use Rattle.trees.specs.declared.width.Width.TheVariants.{Wide}
use Rattle.trees.specs.Node.{Node}
use Rattle.trees.proofs.PairLaws.{length-read_pairs}
use Rattle.history_items.proofs.nodes.NodeItem.len.Goals as goal

pub returns : goal.returns
returns c = c.from.ensures ∙ c.get_u16.ensures ∙ sym (length-read_pairs Wide (number_at 2 c.self.inside.bytes.now 1) (drop 3 c.self.inside.bytes.now)) ∙ ap (λ (node : Node). length node.pairs) c.self.view_is
