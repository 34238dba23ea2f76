use Rattle.std.proofs.Common.{◌≡◌}
use Rattle.history_writes.specs.Indexed.{leaves_from}
use Rattle.history_writes.proofs.index.leaves_of.Given as goal

abbrev pub invariant-pages : goal.invariant-pages
invariant-pages l = l.leaves.items ≡ leaves_from l.first l.index
