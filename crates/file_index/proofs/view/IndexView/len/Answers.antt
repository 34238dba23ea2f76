use Rattle.std.proofs.Common.{◌≡◌, ap, sym, ◌∙◌, length, arith}
use Rattle.file_index.specs.IndexPage.{Indexed, entries_on}
use Rattle.file_index.proofs.PageLaws.{length-entries_on}
use Rattle.file_index.proofs.view.IndexView.len.Goals as goal

pub returns-clause-len : goal.returns-clause-len
returns-clause-len c = c.from.ensures ∙ c.get_u16.ensures ∙ sym (length-entries_on c.self.inside.page.now) ∙ ap (λ (view : Indexed). length view.entries) c.self.view_is

pub returns-clause-some : goal.returns-clause-some
returns-clause-some c =
    let is : c.from.result ≡ length (entries_on c.self.inside.page.now) = c.from.ensures ∙ c.get_u16.ensures ∙ sym (length-entries_on c.self.inside.page.now) in
    omega (arith, c.self.invariant.0)
