use Rattle.std.proofs.Common.{rules, arith, length, ◌≡◌, ◌+◌, inl, inr}
use Rattle.std.proofs.lemmas.Bool.{cases_lt}
use Rattle.std.proofs.lemmas.List.{with_items_is}
use Rattle.page_alloc.proofs.Keeps.{sound_take}
use Rattle.page_alloc.proofs.area_units.AreaUnits.take.Goals as goal

pub invariant_of-self : goal.invariant_of-self
invariant_of-self c =
    let groups : length c.first_free-at.new.full ≡ c.self.inside.full.len = search rules in
    let blocks : length c.first_free-at.new.crowded ≡ c.self.inside.crowded.len = search rules in
    let full : length c.first_free-at.new.full ≡ length c.self.inside.full.items = search rules in
    let crowded : length c.first_free-at.new.crowded ≡ length c.self.inside.crowded.items = search rules in
    rw (c.set.ensures, with_items_is c.self.inside.full c.first_free-at.new.full groups, with_items_is c.self.inside.crowded c.first_free-at.new.crowded blocks)
    (sound_take c.self.inside.used c.self.inside.refs c.self.inside.full.items c.self.inside.crowded.items c.first_free-at.new.full c.first_free-at.new.crowded c.self.inside.low c.self.inside.next c.self.inside.free c.first_free-at.result _ c.self.invariant (search rules) full crowded (search rules) (search rules) (λ k below. elim (cases_lt k (c.first_free-at.result + 1)) [ inl here ↦ inl (omega arith) | inr above ↦ inr (omega arith) ]) (omega arith))
