use Rattle.std.proofs.Common.{◌≡◌, take}
use Rattle.packing.specs.Loop.{roots_of}
use Rattle.packing.proofs.volume.roots_of.Given as goal

abbrev pub invariant-loop-version : goal.invariant-loop-version
invariant-loop-version l = l.roots.items ≡ roots_of (take l.version-index l.versions)
