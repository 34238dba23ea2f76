use Rattle.std.proofs.Common.{rules}
use Rattle.page_alloc.proofs.Keeps.{sound_fresh}
use Rattle.page_alloc.proofs.area_units.AreaUnits.make.Goals as goal

pub invariant_of-result : goal.invariant_of-result
invariant_of-result c = rw (c.in_ok-make.ensures, c.in_ok-make-2.ensures) (sound_fresh c.args.count _ _ c.requires (search rules) (search rules))
