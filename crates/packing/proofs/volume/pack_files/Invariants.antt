use Rattle.packing.proofs.Files.{FilesSoFar}
use Rattle.packing.proofs.volume.pack_files.Given as goal

abbrev pub invariant-loop-at : goal.invariant-loop-at
invariant-loop-at g l = FilesSoFar (g.D.World.outside l.initial.disk) (g.D.World.outside l.disk) l.initial.volume l.volume l.start l.at
