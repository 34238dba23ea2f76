use Rattle.object_files.specs.Reads.{entry_of}
use Rattle.transactions.proofs.Entries.{names_more}
use Rattle.transactions.proofs.tell.names_of.Goals as goal

pub loop-index-preserved : goal.loop-index-preserved
loop-index-preserved c = names_more c.args.catalog.now.entries c.loop-index.index (entry_of c.entry.result) c.loop-index.names c.push.new.self c.in_ok-of_bytes.field-0 c.entry.ensures c.loop-index.invariant c.in_ok-of_bytes.ensures c.in_ok-push.ensures.ok
