use Rattle.std.proofs.Common.{arith}
use Rattle.page_alloc.specs.UnitSet.{used_at}
use Rattle.packing.proofs.LowUnits.{free_or_used}
use Rattle.packing.proofs.volume.free_among.Goals as goal

pub overflow_add-free : goal.overflow_add-free
overflow_add-free c = omega (arith, c.walk.invariant, free_or_used c.args.geometry.now (used_at c.args.units.now) c.walk.index, c.walk-test.true, c.ranges.count.fits)
