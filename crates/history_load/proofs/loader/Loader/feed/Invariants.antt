use Rattle.std.proofs.Common.{◌≤◌, ◌-◌, length, take}
use Rattle.disk_model.specs.Changes.{ChangesWithin}
use Rattle.history_load.specs.Loading.{IsLoader, LoadsPiece}
use Rattle.history_reads.specs.Kept.{AreOfOneStream}
use Rattle.history_writes.specs.Places.{IsBehindCatalog}
use Rattle.history_load.proofs.loader.Loader.feed.Given as goal

abbrev pub invariant-items : goal.invariant-items
invariant-items g l = record {
  within : l.at ≤ length l.piece;
  is : IsLoader l.initial.self.progress.geometry l.self;
  stream : AreOfOneStream l.initial.self.progress l.self.progress;
  changes : ChangesWithin (IsBehindCatalog l.initial.self.progress.geometry) (g.D.World.outside l.initial.disk) (g.D.World.outside l.disk);
  loads : LoadsPiece l.initial.self.progress.geometry (g.D.World.outside l.initial.disk) (g.D.World.outside l.disk) l.initial.self l.self (take l.at l.piece);
}

abbrev pub decreases-items : goal.decreases-items
decreases-items g l = length l.piece - l.at
