use Rattle.ex_base.specs.declared.names.Area.TheVariants.{Page, Segment}
use Rattle.page_alloc.proofs.Writes.{spot_is, was_refs, write_refs}
use Rattle.page_alloc.proofs.units.Units.drop_ref.Goals as goal

pub returns-in-Page-clause-last : goal.returns-in-Page-clause-last
returns-in-Page-clause-last c = rw (← c.self.view_is, was_refs _ Page _ _ c.self.invariant (spot_is _ Page _ _ _ c.in-Page.is c.spot_of-spot.ensures.inside c.spot_of-spot.ensures.named)) c.drop_ref.ensures.last

pub returns-in-Page-clause-refs : goal.returns-in-Page-clause-refs
returns-in-Page-clause-refs c = rw (← c.self.view_is, was_refs _ Page _ _ c.self.invariant (spot_is _ Page _ _ _ c.in-Page.is c.spot_of-spot.ensures.inside c.spot_of-spot.ensures.named)) (write_refs _ Page c.drop_ref.new.self _ _ _ c.self.invariant (spot_is _ Page _ _ _ c.in-Page.is c.spot_of-spot.ensures.inside c.spot_of-spot.ensures.named) c.drop_ref.ensures.refs)

pub returns-in-Segment-clause-last : goal.returns-in-Segment-clause-last
returns-in-Segment-clause-last c = rw (← c.self.view_is, was_refs _ Segment _ _ c.self.invariant (spot_is _ Segment _ _ _ c.in-Segment.is c.spot_of-spot.ensures.inside c.spot_of-spot.ensures.named)) c.drop_ref-in-Segment.ensures.last

pub returns-in-Segment-clause-refs : goal.returns-in-Segment-clause-refs
returns-in-Segment-clause-refs c = rw (← c.self.view_is, was_refs _ Segment _ _ c.self.invariant (spot_is _ Segment _ _ _ c.in-Segment.is c.spot_of-spot.ensures.inside c.spot_of-spot.ensures.named)) (write_refs _ Segment c.drop_ref-in-Segment.new.self _ _ _ c.self.invariant (spot_is _ Segment _ _ _ c.in-Segment.is c.spot_of-spot.ensures.inside c.spot_of-spot.ensures.named) c.drop_ref-in-Segment.ensures.refs)
