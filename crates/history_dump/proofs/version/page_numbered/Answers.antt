use Rattle.std.proofs.Common.{rules, sym, ◌∙◌}
use Rattle.history_plans.specs.Plans.{pages_at}
use Rattle.history_dump.proofs.Contents.{number_field}
use Rattle.history_dump.proofs.version.page_numbered.Goals as goal

pub returns-in-Some-number_of-clause-field : goal.returns-in-Some-number_of-clause-field
returns-in-Some-number_of-clause-field c =
    number_field (pages_at c.args.height c.args.plan.now) c.in-Some.page.0 c.in-Some-number_of.number (sym c.number_of.ensures ∙ c.in-Some-number_of.is) (search rules)
