use Rattle.std.proofs.Common.{◌∙◌}
use Rattle.ex_base.specs.declared.names.Area.TheVariants.{Page, Segment}
use Rattle.page_alloc.proofs.Writes.{count_in}
use Rattle.page_alloc.proofs.units.Units.free.Goals as goal

pub returns-in-Page : goal.returns-in-Page
returns-in-Page c = rw (← c.self.view_is) (c.free.ensures ∙ count_in _ Page _ c.self.invariant c.in-Page.is)

pub returns-in-Segment : goal.returns-in-Segment
returns-in-Segment c = rw (← c.self.view_is) (c.free-in-Segment.ensures ∙ count_in _ Segment _ c.self.invariant c.in-Segment.is)
