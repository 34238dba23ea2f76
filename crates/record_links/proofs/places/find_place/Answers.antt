use Rattle.std.proofs.Common.{◌<◌, ◌≤◌, ◌+◌, ◌-◌, ◌/◌, ℕ, sym, subst, ◌∙◌, arith}
use Rattle.std.proofs.lemmas.Bool.{both_ways}
use Rattle.ex_base.specs.declared.names.Place.{Place}
use Rattle.record_links.specs.Links.{IsBefore}
use Rattle.record_links.proofs.PlaceOrder.{between_all, go_up, go_down, none_between, behind}
use Rattle.record_links.proofs.places.find_place.Goals as goal

pub halves-init : goal.halves-init
halves-init c = between_all c.args.records.now c.args.place

pub returns-then-is_same-clause-found : goal.returns-then-is_same-clause-found
returns-then-is_same-clause-found c = sym c.place_of-here.ensures ∙ c.is_same.ensures.0 c.if-is_same.true

pub halves-preserved-then-is_before : goal.halves-preserved-then-is_before
halves-preserved-then-is_before c =
    let from : ℕ = c.halves.from in
    let middle : ℕ = from + (c.halves.to - from) / 2 in
    let below : middle < c.halves.to = omega (arith, c.halves-test.true) in
    go_up c.args.records.now c.args.place from c.halves.to middle c.requires c.halves.invariant below
    (subst (λ (p : Place). IsBefore p c.args.place) c.place_of-here.ensures (c.is_before.ensures.0 c.if-is_before.true))

pub halves-preserved : goal.halves-preserved
halves-preserved c =
    let from : ℕ = c.halves.from in
    let middle : ℕ = from + (c.halves.to - from) / 2 in
    let below : middle < c.halves.to = omega (arith, c.halves-test.true) in
    let over : from ≤ middle = omega arith in
    go_down c.args.records.now c.args.place from c.halves.to middle c.requires c.halves.invariant over below
    (subst (IsBefore c.args.place) c.place_of-here.ensures
    (behind c.place_of-here.result c.args.place (λ e. both_ways _ c.if-is_same.false (c.is_same.ensures.1 e)) (λ b. both_ways _ c.if-is_before.false (c.is_before.ensures.1 b))))

pub returns-clause-none : goal.returns-clause-none
returns-clause-none c = none_between c.args.records.now c.args.place c.halves.from c.halves.to c.halves.invariant c.halves-test.false
