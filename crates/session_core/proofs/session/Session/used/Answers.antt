use Rattle.ex_base.specs.declared.names.Area.TheVariants.{Page, Segment}
use Rattle.page_alloc.specs.UnitSet.{used_at}
use Rattle.session_core.proofs.Refusing.{free_within}
use Rattle.session_core.proofs.session.Session.used.Goals as goal

pub overflow_sub-result : goal.overflow_sub-result
overflow_sub-result c = free_within c.self.inside.volume.geometry c.self.inside.volume.units.geometry (used_at c.self.inside.volume.units) Page c.free.result c.self.invariant.units.geometry c.free.ensures

pub overflow_sub-result-in-Segment : goal.overflow_sub-result-in-Segment
overflow_sub-result-in-Segment c = free_within c.self.inside.volume.geometry c.self.inside.volume.units.geometry (used_at c.self.inside.volume.units) Segment c.free-in-Segment.result c.self.invariant.units.geometry c.free-in-Segment.ensures
