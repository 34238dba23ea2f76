use Rattle.std.proofs.Common.{ap}
use Rattle.object_files.specs.Catalog.{FileEntry}
use Rattle.history_dump.proofs.Catalogs.{one_entry}
use Rattle.history_dump.proofs.file.number_on.Goals as goal

pub returns-in-Ok-clause-number : goal.returns-in-Ok-clause-number
returns-in-Ok-clause-number c = λ catalog entry spelled is.
    let there = c.in-Ok.ensures.entry in
    ap (λ (e : FileEntry). e.file_no) (one_entry c.args.page.now there.0 catalog there.1 spelled c.args.at _ entry there.2 is)
