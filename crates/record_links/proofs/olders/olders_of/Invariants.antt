use Rattle.record_links.proofs.Older.{FoundTo}
use Rattle.record_links.proofs.olders.olders_of.Given as goal

abbrev pub invariant-walk : goal.invariant-walk
invariant-walk l = FoundTo l.records l.linked-index l.olders.items
