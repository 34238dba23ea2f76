use Rattle.std.proofs.Common.{sym, ◌∙◌, ap, length, length-set}
use Rattle.ex_base.specs.declared.names.Area.TheVariants.{Page, Segment}
use Rattle.page_alloc.proofs.Writes.{spot_is, was_used, write_used, write_refs, gave_free, outside_free}
use Rattle.page_alloc.proofs.units.Units.give.Goals as goal

pub give-requires-clause-used : goal.give-requires-clause-used
give-requires-clause-used c = sym (was_used _ Page _ _ c.self.invariant (spot_is _ Page _ _ _ c.in-Page.is c.spot_of-spot.ensures.inside c.spot_of-spot.ensures.named)) ∙ rw (← c.self.view_is) at c.requires.used

pub returns-in-Page-clause-used : goal.returns-in-Page-clause-used
returns-in-Page-clause-used c = rw (← c.self.view_is) (write_used _ Page c.give.new.self _ _ _ c.self.invariant (spot_is _ Page _ _ _ c.in-Page.is c.spot_of-spot.ensures.inside c.spot_of-spot.ensures.named) c.give.ensures.used)

pub returns-in-Page-clause-refs : goal.returns-in-Page-clause-refs
returns-in-Page-clause-refs c = rw (← c.self.view_is) (write_refs _ Page c.give.new.self _ _ _ c.self.invariant (spot_is _ Page _ _ _ c.in-Page.is c.spot_of-spot.ensures.inside c.spot_of-spot.ensures.named) c.give.ensures.refs)

pub returns-in-Page-clause-free : goal.returns-in-Page-clause-free
returns-in-Page-clause-free c = rw (← c.self.view_is) (gave_free _ Page _ _ _ c.self.invariant (spot_is _ Page _ _ _ c.in-Page.is c.spot_of-spot.ensures.inside c.spot_of-spot.ensures.named) (rw (← c.self.view_is) at c.requires.used) c.give.ensures.used (ap length c.give.ensures.refs ∙ length-set _ _ _))

pub returns-in-Page-clause-other_free : goal.returns-in-Page-clause-other_free
returns-in-Page-clause-other_free c = rw (← c.self.view_is) (outside_free _ Page _ _ _ _ c.self.invariant (spot_is _ Page _ _ _ c.in-Page.is c.spot_of-spot.ensures.inside c.spot_of-spot.ensures.named) c.give.ensures.used (ap length c.give.ensures.refs ∙ length-set _ _ _))

pub give-requires-in-Segment-clause-used : goal.give-requires-in-Segment-clause-used
give-requires-in-Segment-clause-used c = sym (was_used _ Segment _ _ c.self.invariant (spot_is _ Segment _ _ _ c.in-Segment.is c.spot_of-spot.ensures.inside c.spot_of-spot.ensures.named)) ∙ rw (← c.self.view_is) at c.requires.used

pub returns-in-Segment-clause-used : goal.returns-in-Segment-clause-used
returns-in-Segment-clause-used c = rw (← c.self.view_is) (write_used _ Segment c.give-in-Segment.new.self _ _ _ c.self.invariant (spot_is _ Segment _ _ _ c.in-Segment.is c.spot_of-spot.ensures.inside c.spot_of-spot.ensures.named) c.give-in-Segment.ensures.used)

pub returns-in-Segment-clause-refs : goal.returns-in-Segment-clause-refs
returns-in-Segment-clause-refs c = rw (← c.self.view_is) (write_refs _ Segment c.give-in-Segment.new.self _ _ _ c.self.invariant (spot_is _ Segment _ _ _ c.in-Segment.is c.spot_of-spot.ensures.inside c.spot_of-spot.ensures.named) c.give-in-Segment.ensures.refs)

pub returns-in-Segment-clause-free : goal.returns-in-Segment-clause-free
returns-in-Segment-clause-free c = rw (← c.self.view_is) (gave_free _ Segment _ _ _ c.self.invariant (spot_is _ Segment _ _ _ c.in-Segment.is c.spot_of-spot.ensures.inside c.spot_of-spot.ensures.named) (rw (← c.self.view_is) at c.requires.used) c.give-in-Segment.ensures.used (ap length c.give-in-Segment.ensures.refs ∙ length-set _ _ _))

pub returns-in-Segment-clause-other_free : goal.returns-in-Segment-clause-other_free
returns-in-Segment-clause-other_free c = rw (← c.self.view_is) (outside_free _ Segment _ _ _ _ c.self.invariant (spot_is _ Segment _ _ _ c.in-Segment.is c.spot_of-spot.ensures.inside c.spot_of-spot.ensures.named) c.give-in-Segment.ensures.used (ap length c.give-in-Segment.ensures.refs ∙ length-set _ _ _))
