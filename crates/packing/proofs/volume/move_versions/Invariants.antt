use Rattle.compact.specs.Moves.{copies_of}
use Rattle.packing.proofs.SoFar.{MovedSoFar}
use Rattle.packing.proofs.volume.move_versions.Given as goal

abbrev pub invariant-loop-version : goal.invariant-loop-version
invariant-loop-version g l = MovedSoFar (g.D.World.outside l.initial.disk) (g.D.World.outside l.disk) l.initial.volume l.volume l.start l.versions (copies_of l.moves) l.version-index
