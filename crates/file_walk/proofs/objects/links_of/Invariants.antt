use Rattle.std.proofs.Common.{◌≡◌, ◌++◌, drop}
use Rattle.file_walk.specs.Objects.{links_of}
use Rattle.file_walk.proofs.objects.links_of.Given as goal

abbrev pub invariant-loop-standing : goal.invariant-loop-standing
invariant-loop-standing l = links_of l.records ≡ l.links.items ++ links_of (drop l.standing-index l.records)
