use Rattle.std.proofs.Common.{◌≤◌, length}
use Rattle.disk_model.specs.Changes.{ChangesWithin}
use Rattle.history_writes.specs.Places.{InPagesFrom}
use Rattle.history_writes.specs.Linked.{IsDesk}
use Rattle.history_writes.proofs.RowLinks.{LinkedTo}
use Rattle.history_writes.proofs.rows.link_pages.Given as goal

abbrev pub invariant-pages : goal.invariant-pages
invariant-pages g l = record {
  few : l.done ≤ length l.links;
  desk : IsDesk l.geometry l.desk;
  linked : LinkedTo l.geometry (g.D.World.outside l.fn.disk) (g.D.World.outside l.disk) l.first.0 l.links l.index l.done;
  changes : ChangesWithin (InPagesFrom l.geometry l.first.0) (g.D.World.outside l.fn.disk) (g.D.World.outside l.disk);
}
