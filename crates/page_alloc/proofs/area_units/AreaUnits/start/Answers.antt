use Rattle.std.proofs.Common.{rules}
use Rattle.page_alloc.proofs.Counts.{free_inside}
use Rattle.page_alloc.proofs.area_units.AreaUnits.start.Goals as goal

pub get-requires : goal.get-requires
get-requires c = free_inside c.self.inside.used c.self.inside.low c.self.invariant.low (search rules)
