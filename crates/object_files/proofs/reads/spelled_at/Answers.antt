use Rattle.std.proofs.Common.{arith}
use Rattle.object_files.proofs.CatalogLaws.{entry_spelled}
use Rattle.object_files.proofs.reads.spelled_at.Goals as goal

pub returns : goal.returns
returns c = entry_spelled c.args.page.now c.args.at _ (omega arith) (λ i. omega (arith, c.type_inv.page i)) c.requires.room c.requires.entry
