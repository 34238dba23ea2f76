use Rattle.std.proofs.Common.{◌≡◌, ℕ, List, take, All, IsTrue, Some}
use Rattle.disk_model.specs.Calls.{MakesCalls}
use Rattle.disk_model.specs.Changes.{ChangesWithin}
use Rattle.buffer_groups.specs.Frames.{Lends}
use Rattle.buffer_groups.specs.Groups.{AreOfSize, SameKinds}
use Rattle.meta_pages.specs.Homes.{AreFrom, InHomes, homes_written, homes_forgotten}
use Rattle.meta_pages.proofs.home.write_rows.Given as goal

abbrev pub invariant-loop-row : goal.invariant-loop-row
invariant-loop-row g l = record {
  calls : MakesCalls l.row-index (g.D.World.outside l.initial.disk) (g.D.World.outside l.disk);
  written : (d : List ℕ) → (g.D.World.outside l.initial.disk).disk ≡ Some d
      → (g.D.World.outside l.disk).disk ≡ Some (homes_written l.size (take l.row-index l.rows) d);
  forgotten : l.groups ≡ homes_forgotten (take l.row-index l.rows) l.initial.groups;
  lends : IsTrue (g.D.World.outside l.initial.disk).honest
      → All (Lends (g.D.World.outside l.initial.disk).disk) l.initial.groups → All (Lends (g.D.World.outside l.disk).disk) l.groups;
  kinds : SameKinds l.initial.groups l.groups;
  sizes : AreOfSize l.size l.groups;
  from : (low : ℕ) → AreFrom low l.initial.groups → AreFrom low l.groups;
  changes : ChangesWithin (InHomes l.size (take l.row-index l.rows)) (g.D.World.outside l.initial.disk) (g.D.World.outside l.disk);
}
