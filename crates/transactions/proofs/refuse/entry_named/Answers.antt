use Rattle.std.proofs.Common.{sym}
use Rattle.object_files.specs.Reads.{entry_of}
use Rattle.transactions.proofs.Entries.{entry_here, entry_later}
use Rattle.transactions.proofs.refuse.entry_named.Goals as goal

pub returns-then-eq : goal.returns-then-eq
returns-then-eq c = entry_here c.args.name.now c.args.catalog.now.entries c.loop-index.index (entry_of c.entry-entry.result) c.loop-index.invariant c.entry-entry.ensures (sym c.if-eq.ensures)

pub loop-index-preserved : goal.loop-index-preserved
loop-index-preserved c = entry_later c.args.name.now c.args.catalog.now.entries c.loop-index.index (entry_of c.entry-entry.result) c.loop-index.invariant c.entry-entry.ensures (sym c.if-eq.ensures)
