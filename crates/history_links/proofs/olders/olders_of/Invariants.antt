use Rattle.history_links.proofs.Older.{ToldTo}
use Rattle.history_links.proofs.olders.olders_of.Given as goal

abbrev pub invariant-walk : goal.invariant-walk
invariant-walk l = ToldTo l.versions l.at l.olders.items
