use Rattle.std.proofs.Common.{◌≡◌, length, sym, subst, arith}
use Rattle.std.proofs.lemmas.List.{with_items_is}
use Rattle.history_writes.specs.Laid.{IsDense}
use Rattle.history_writes.proofs.Laying.{empty_dense}
use Rattle.history_writes.proofs.file_pages.FilePages.begin.Goals as goal

pub returns-clause-page : goal.returns-clause-page
returns-clause-page c =
    let long : length c.empty_page.new.image ≡ c.args.self.now.page.len = omega (arith, c.empty_page.auto.image, c.deref_mut.ensures.len) in
    subst IsDense (sym (with_items_is c.args.self.now.page c.empty_page.new.image long)) (empty_dense c.empty_page.new.image c.args.file_no c.empty_page.ensures)
