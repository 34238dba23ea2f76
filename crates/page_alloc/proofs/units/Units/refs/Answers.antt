use Rattle.std.proofs.Common.{◌∙◌, sym, ap, get_or, true}
use Rattle.page_alloc.specs.Flags.{UnitFlags}
use Rattle.page_alloc.proofs.Writes.{IsSpot, was_used, was_refs}
use Rattle.page_alloc.proofs.units.Units.refs.Goals as goal

pub returns-clause-refs : goal.returns-clause-refs
returns-clause-refs c =
    let spot : IsSpot c.self.inside.geometry c.spot_of-spot.result.area c.spot_of-spot.result.index c.args.page.0 = record { inside = c.spot_of-spot.ensures.inside; named = c.spot_of-spot.ensures.named } in
    let flags = rw (← c.self.view_is) at c.area.ensures in
    rw (← c.self.view_is) (c.refs.ensures.refs ∙ (ap (λ (f : UnitFlags). get_or f.refs c.spot_of-spot.result.index 0) flags ∙ sym (was_refs _ _ _ _ c.self.invariant spot)))

pub returns-clause-unowned : goal.returns-clause-unowned
returns-clause-unowned c =
    let spot : IsSpot c.self.inside.geometry c.spot_of-spot.result.area c.spot_of-spot.result.index c.args.page.0 = record { inside = c.spot_of-spot.ensures.inside; named = c.spot_of-spot.ensures.named } in
    let flags = rw (← c.self.view_is) at c.area.ensures in
    rw (← c.self.view_is) (λ free. c.refs.ensures.unowned (ap (λ (f : UnitFlags). get_or f.used c.spot_of-spot.result.index true) flags ∙ (sym (was_used _ _ _ _ c.self.invariant spot) ∙ free)))
