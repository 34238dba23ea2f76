use Rattle.std.proofs.Common.{ap, ◌∙◌}
use Rattle.file_index.specs.IndexPage.{Indexed}
use Rattle.file_index.proofs.PageLaws.{file_is}
use Rattle.file_index.proofs.view.IndexView.file_no.Goals as goal

pub returns : goal.returns
returns c = c.get_u32.ensures ∙ file_is c.self.inside.page.now ∙ ap (λ (view : Indexed). view.file_no) c.self.view_is
