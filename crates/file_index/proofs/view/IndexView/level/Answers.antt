use Rattle.std.proofs.Common.{ap, ◌∙◌}
use Rattle.file_index.specs.IndexPage.{Indexed}
use Rattle.file_index.proofs.PageLaws.{level_is}
use Rattle.file_index.proofs.view.IndexView.level.Goals as goal

pub returns : goal.returns
returns c = level_is c.self.inside.page.now ∙ ap (λ (view : Indexed). view.level) c.self.view_is
