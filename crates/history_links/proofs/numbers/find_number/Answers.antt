use Rattle.std.proofs.Common.{◌<◌, ◌≤◌, ◌+◌, ◌-◌, ◌/◌, ℕ, length, get_or, arith}
use Rattle.history_links.specs.Found.{nowhere}
use Rattle.history_links.proofs.NumberOrder.{below_there, between_all, go_down, go_up, none_between, over_there}
use Rattle.history_links.proofs.numbers.find_number.Goals as goal

pub halves-init : goal.halves-init
halves-init c = between_all c.args.versions.now c.args.number

pub returns-clause-none : goal.returns-clause-none
returns-clause-none c = none_between c.args.versions.now c.args.number c.halves.from c.halves.to c.halves.invariant c.halves-test.false

pub halves-preserved-then-here-number-2 : goal.halves-preserved-then-here-number-2
halves-preserved-then-here-number-2 c =
    let from : ℕ = c.halves.from in
    let middle : ℕ = from + (c.halves.to - from) / 2 in
    let below : middle < c.halves.to = omega (arith, c.halves-test.true) in
    let within : middle < length c.args.versions.now = (let high = c.halves.invariant.within in omega (arith, below, high)) in
    go_up c.args.versions.now c.args.number from c.halves.to middle c.requires c.halves.invariant below (below_there c.args.versions.now c.args.number middle _ within c.if-here-number-2.true)

pub halves-preserved : goal.halves-preserved
halves-preserved c =
    let from : ℕ = c.halves.from in
    let middle : ℕ = from + (c.halves.to - from) / 2 in
    let below : middle < c.halves.to = omega (arith, c.halves-test.true) in
    let over : from ≤ middle = omega arith in
    let within : middle < length c.args.versions.now = (let high = c.halves.invariant.within in omega (arith, below, high)) in
    let higher : c.args.number < (get_or c.args.versions.now middle nowhere).unique = omega (arith, c.if-here-number.false, c.if-here-number-2.false) in
    go_down c.args.versions.now c.args.number from c.halves.to middle c.requires c.halves.invariant over below
    (over_there c.args.versions.now c.args.number middle nowhere within higher)
