use Rattle.object_files.specs.Reads.{entry_of}
use Rattle.history_plans.proofs.Tables.{numbers_more}
use Rattle.history_plans.proofs.catalog.numbers_of.Goals as goal

pub loop-index-preserved : goal.loop-index-preserved
loop-index-preserved c = numbers_more c.args.catalog.now.entries c.loop-index.index (entry_of c.entry.result) c.loop-index.numbers.items c.push.new.self.items c.entry.ensures c.loop-index.invariant c.in_ok-push.ensures.items
