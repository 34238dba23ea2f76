use Rattle.std.proofs.Common.{ap, ◌∙◌}
use Rattle.trees.specs.Node.{Node}
use Rattle.trees.proofs.NodeLaws.{level_is}
use Rattle.trees.proofs.view.NodeView.level.Goals as goal

pub returns : goal.returns
returns c = level_is c.self.inside.page.now ∙ ap (λ (node : Node). node.level) c.self.view_is
