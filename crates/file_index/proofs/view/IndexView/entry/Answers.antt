use Rattle.file_index.proofs.PageLaws.{entry_given}
use Rattle.file_index.proofs.view.IndexView.entry.Goals as goal

pub returns : goal.returns
returns c = entry_given c.self.inside.page.now c.args.self.now c.args.index c.get_u32.result c.get_u32-2.result c.self.view_is c.requires c.get_u32.ensures c.get_u32-2.ensures
