use Rattle.std.proofs.Common.{◌≡◌}
use Rattle.page_alloc.specs.UnitSet.{used_at}
use Rattle.compact.specs.High.{free_below}
use Rattle.packing.proofs.volume.free_among.Given as goal

abbrev pub invariant-walk : goal.invariant-walk
invariant-walk l = l.free ≡ free_below l.geometry (used_at l.units) l.index
