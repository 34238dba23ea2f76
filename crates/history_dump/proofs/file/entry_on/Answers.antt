use Rattle.std.proofs.Common.{arith}
use Rattle.history_dump.proofs.Catalogs.{no_entry_there}
use Rattle.history_dump.proofs.file.entry_on.Goals as goal

pub returns-else-at-len-clause-sound : goal.returns-else-at-len-clause-sound
returns-else-at-len-clause-sound c = λ catalog entry spelled is.
    no_entry_there c.args.page.now c.in-Some.view catalog c.in-Some.ensures.found spelled c.args.at entry (omega (arith, c.if-at-len.false, c.len.ensures)) is
