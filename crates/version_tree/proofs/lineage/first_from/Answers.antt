use Rattle.std.proofs.Common.{rules, ◌≡◌, ◌-◌, None, sym, ◌∙◌, arith}
use Rattle.version_tree.specs.Lineage.{older_at}
use Rattle.version_tree.proofs.LineageOrder.{first_ends, first_steps, first_stops}
use Rattle.version_tree.proofs.lineage.first_from.Goals as goal

pub returns-in_default : goal.returns-in_default
returns-in_default c =
    let none : older_at c.args.by_place.now c.steps.member.older ≡ None = search rules in
    sym (first_stops c.steps.steps c.args.by_place.now c.steps.member none) ∙ c.steps.invariant

pub steps-preserved : goal.steps-preserved
steps-preserved c =
    sym (first_steps c.steps.steps (c.steps.steps - 1) c.args.by_place.now c.steps.member c.in-Some.older (omega (arith, c.steps-test.true)) (sym c.older_at.ensures ∙ c.in-Some.is)) ∙ c.steps.invariant

pub returns : goal.returns
returns c = sym (first_ends c.steps.steps c.args.by_place.now c.steps.member (omega (arith, c.steps-test.false))) ∙ c.steps.invariant
