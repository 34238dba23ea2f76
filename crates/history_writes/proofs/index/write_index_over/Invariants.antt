use Rattle.std.proofs.Common.{length}
use Rattle.history_writes.proofs.Levels.{LevelsTo}
use Rattle.history_writes.proofs.index.write_index_over.Given as goal

abbrev pub invariant-levels : goal.invariant-levels
invariant-levels g l = LevelsTo l.geometry (g.D.World.outside l.fn.disk) (g.D.World.outside l.disk) l.file_no l.fn.first.0 l.pages l.level l.next l.entries.items

abbrev pub decreases-levels : goal.decreases-levels
decreases-levels g l = length l.entries.items
