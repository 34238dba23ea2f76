use Rattle.std.proofs.Common.{◌-◌, length}
use Rattle.packing.proofs.FileSoFar.{FileSoFar}
use Rattle.packing.proofs.volume.pack_file.Given as goal

abbrev pub invariant-objects : goal.invariant-objects
invariant-objects g l = FileSoFar (g.D.World.outside l.fn.disk) (g.D.World.outside l.disk) l.fn.volume l.volume l.start l.file_no l.versions.items l.at

abbrev pub decreases-objects : goal.decreases-objects
decreases-objects g l = length l.versions.items - l.at
