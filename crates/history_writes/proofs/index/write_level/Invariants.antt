use Rattle.std.proofs.Common.{◌≡◌, length}
use Rattle.disk_model.specs.Changes.{ChangesWithin}
use Rattle.file_index.specs.Nodes.{heads}
use Rattle.history_writes.specs.Places.{InPagesFrom}
use Rattle.history_writes.specs.Indexed.{from_on}
use Rattle.history_writes.proofs.Levels.{LevelTo}
use Rattle.history_writes.proofs.index.write_level.Given as goal

abbrev pub invariant-shares : goal.invariant-shares
invariant-shares g l = record {
  count : length l.above.items ≡ l.index;
  heads : heads l.above.items ≡ from_on l.level.first l.index;
  so_far : LevelTo l.geometry (g.D.World.outside l.fn.disk) (g.D.World.outside l.disk) l.level l.below l.above.items l.index;
  changes : ChangesWithin (InPagesFrom l.geometry l.level.first) (g.D.World.outside l.fn.disk) (g.D.World.outside l.disk);
}
