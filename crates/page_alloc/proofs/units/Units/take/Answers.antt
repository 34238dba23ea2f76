use Rattle.std.proofs.Common.{sym, ◌∙◌, ap, length}
use Rattle.ex_base.specs.declared.names.Area.TheVariants.{Page, Segment}
use Rattle.page_alloc.proofs.Writes.{first_spot, was_refs, write_used, taken_free, other_free, lowest_in, some_in}
use Rattle.page_alloc.proofs.units.Units.take.Goals as goal

pub take-requires : goal.take-requires
take-requires c = some_in _ Page _ c.self.invariant c.in-Page.is (rw (← c.self.view_is) at c.requires)

pub returns-in-Page-clause-lowest : goal.returns-in-Page-clause-lowest
returns-in-Page-clause-lowest c = rw (← c.self.view_is) (lowest_in _ Page _ _ c.self.invariant c.take.ensures.first c.in-Page.is)

pub returns-in-Page-clause-fresh : goal.returns-in-Page-clause-fresh
returns-in-Page-clause-fresh c = rw (← c.self.view_is) (was_refs _ Page _ _ c.self.invariant (first_spot _ Page _ c.self.invariant c.take.ensures.first) ∙ c.take.ensures.fresh)

pub returns-in-Page-clause-used : goal.returns-in-Page-clause-used
returns-in-Page-clause-used c = rw (← c.self.view_is) (write_used _ Page c.take.new.self _ _ _ c.self.invariant (first_spot _ Page _ c.self.invariant c.take.ensures.first) c.take.ensures.used)

pub returns-in-Page-clause-free : goal.returns-in-Page-clause-free
returns-in-Page-clause-free c = rw (← c.self.view_is) (taken_free _ Page _ _ _ c.self.invariant (first_spot _ Page _ c.self.invariant c.take.ensures.first).inside c.take.ensures.first.free c.take.ensures.used (ap length c.take.ensures.refs) c.in-Page.is)

pub returns-in-Page-clause-other_free : goal.returns-in-Page-clause-other_free
returns-in-Page-clause-other_free c = rw (← c.self.view_is) (λ b n. other_free _ Page b _ _ _ c.self.invariant c.take.ensures.used (ap length c.take.ensures.refs) (λ e. n (e ∙ sym c.in-Page.is)))

pub take-index-requires : goal.take-index-requires
take-index-requires c = some_in _ Segment _ c.self.invariant c.in-Segment.is (rw (← c.self.view_is) at c.requires)

pub returns-in-Segment-clause-lowest : goal.returns-in-Segment-clause-lowest
returns-in-Segment-clause-lowest c = rw (← c.self.view_is) (lowest_in _ Segment _ _ c.self.invariant c.take-index.ensures.first c.in-Segment.is)

pub returns-in-Segment-clause-fresh : goal.returns-in-Segment-clause-fresh
returns-in-Segment-clause-fresh c = rw (← c.self.view_is) (was_refs _ Segment _ _ c.self.invariant (first_spot _ Segment _ c.self.invariant c.take-index.ensures.first) ∙ c.take-index.ensures.fresh)

pub returns-in-Segment-clause-used : goal.returns-in-Segment-clause-used
returns-in-Segment-clause-used c = rw (← c.self.view_is) (write_used _ Segment c.take-index.new.self _ _ _ c.self.invariant (first_spot _ Segment _ c.self.invariant c.take-index.ensures.first) c.take-index.ensures.used)

pub returns-in-Segment-clause-free : goal.returns-in-Segment-clause-free
returns-in-Segment-clause-free c = rw (← c.self.view_is) (taken_free _ Segment _ _ _ c.self.invariant (first_spot _ Segment _ c.self.invariant c.take-index.ensures.first).inside c.take-index.ensures.first.free c.take-index.ensures.used (ap length c.take-index.ensures.refs) c.in-Segment.is)

pub returns-in-Segment-clause-other_free : goal.returns-in-Segment-clause-other_free
returns-in-Segment-clause-other_free c = rw (← c.self.view_is) (λ b n. other_free _ Segment b _ _ _ c.self.invariant c.take-index.ensures.used (ap length c.take-index.ensures.refs) (λ e. n (e ∙ sym c.in-Segment.is)))
