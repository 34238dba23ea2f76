use Rattle.std.proofs.Common.{◌∙◌, sym, ap, get_or, true}
use Rattle.page_alloc.specs.Flags.{UnitFlags}
use Rattle.page_alloc.proofs.Writes.{IsSpot, was_used}
use Rattle.page_alloc.proofs.units.Units.is_used.Goals as goal

pub returns : goal.returns
returns c =
    let spot : IsSpot c.self.inside.geometry c.spot_of-spot.result.area c.spot_of-spot.result.index c.args.page.0 = record { inside = c.spot_of-spot.ensures.inside; named = c.spot_of-spot.ensures.named } in
    let flags = rw (← c.self.view_is) at c.area.ensures in
    rw (← c.self.view_is) (c.is_used.ensures ∙ (ap (λ (f : UnitFlags). get_or f.used c.spot_of-spot.result.index true) flags ∙ sym (was_used _ _ _ _ c.self.invariant spot)))
