use Rattle.std.proofs.Common.{sym, ◌∙◌, ap, length}
use Rattle.ex_base.specs.declared.names.Area.TheVariants.{Page, Segment}
use Rattle.page_alloc.proofs.Writes.{spot_is, was_used, was_refs, write_used, adopted_free, outside_free}
use Rattle.page_alloc.proofs.units.Units.adopt.Goals as goal

pub adopt-requires-clause-unused : goal.adopt-requires-clause-unused
adopt-requires-clause-unused c = sym (was_used _ Page _ _ c.self.invariant (spot_is _ Page _ _ _ c.in-Page.is c.spot_of-spot.ensures.inside c.spot_of-spot.ensures.named)) ∙ rw (← c.self.view_is) at c.requires.unused

pub returns-in-Page-clause-fresh : goal.returns-in-Page-clause-fresh
returns-in-Page-clause-fresh c = rw (← c.self.view_is) (was_refs _ Page _ _ c.self.invariant (spot_is _ Page _ _ _ c.in-Page.is c.spot_of-spot.ensures.inside c.spot_of-spot.ensures.named) ∙ c.adopt.ensures.fresh)

pub returns-in-Page-clause-used : goal.returns-in-Page-clause-used
returns-in-Page-clause-used c = rw (← c.self.view_is) (write_used _ Page c.adopt.new.self _ _ _ c.self.invariant (spot_is _ Page _ _ _ c.in-Page.is c.spot_of-spot.ensures.inside c.spot_of-spot.ensures.named) c.adopt.ensures.used)

pub returns-in-Page-clause-free : goal.returns-in-Page-clause-free
returns-in-Page-clause-free c = rw (← c.self.view_is) (adopted_free _ Page _ _ _ c.self.invariant (spot_is _ Page _ _ _ c.in-Page.is c.spot_of-spot.ensures.inside c.spot_of-spot.ensures.named) (rw (← c.self.view_is) at c.requires.unused) c.adopt.ensures.used (ap length c.adopt.ensures.refs))

pub returns-in-Page-clause-other_free : goal.returns-in-Page-clause-other_free
returns-in-Page-clause-other_free c = rw (← c.self.view_is) (outside_free _ Page _ _ _ _ c.self.invariant (spot_is _ Page _ _ _ c.in-Page.is c.spot_of-spot.ensures.inside c.spot_of-spot.ensures.named) c.adopt.ensures.used (ap length c.adopt.ensures.refs))

pub adopt-requires-in-Segment-clause-unused : goal.adopt-requires-in-Segment-clause-unused
adopt-requires-in-Segment-clause-unused c = sym (was_used _ Segment _ _ c.self.invariant (spot_is _ Segment _ _ _ c.in-Segment.is c.spot_of-spot.ensures.inside c.spot_of-spot.ensures.named)) ∙ rw (← c.self.view_is) at c.requires.unused

pub returns-in-Segment-clause-fresh : goal.returns-in-Segment-clause-fresh
returns-in-Segment-clause-fresh c = rw (← c.self.view_is) (was_refs _ Segment _ _ c.self.invariant (spot_is _ Segment _ _ _ c.in-Segment.is c.spot_of-spot.ensures.inside c.spot_of-spot.ensures.named) ∙ c.adopt-in-Segment.ensures.fresh)

pub returns-in-Segment-clause-used : goal.returns-in-Segment-clause-used
returns-in-Segment-clause-used c = rw (← c.self.view_is) (write_used _ Segment c.adopt-in-Segment.new.self _ _ _ c.self.invariant (spot_is _ Segment _ _ _ c.in-Segment.is c.spot_of-spot.ensures.inside c.spot_of-spot.ensures.named) c.adopt-in-Segment.ensures.used)

pub returns-in-Segment-clause-free : goal.returns-in-Segment-clause-free
returns-in-Segment-clause-free c = rw (← c.self.view_is) (adopted_free _ Segment _ _ _ c.self.invariant (spot_is _ Segment _ _ _ c.in-Segment.is c.spot_of-spot.ensures.inside c.spot_of-spot.ensures.named) (rw (← c.self.view_is) at c.requires.unused) c.adopt-in-Segment.ensures.used (ap length c.adopt-in-Segment.ensures.refs))

pub returns-in-Segment-clause-other_free : goal.returns-in-Segment-clause-other_free
returns-in-Segment-clause-other_free c = rw (← c.self.view_is) (outside_free _ Segment _ _ _ _ c.self.invariant (spot_is _ Segment _ _ _ c.in-Segment.is c.spot_of-spot.ensures.inside c.spot_of-spot.ensures.named) c.adopt-in-Segment.ensures.used (ap length c.adopt-in-Segment.ensures.refs))
