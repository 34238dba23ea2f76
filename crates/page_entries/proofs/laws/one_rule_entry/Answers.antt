use Rattle.page_entries.proofs.RuleLaws.{one_rule, short_rule}
use Rattle.page_entries.proofs.laws.one_rule_entry.Goals as goal

pub returns-clause-one : goal.returns-clause-one
returns-clause-one c = one_rule

pub returns-clause-short : goal.returns-clause-short
returns-clause-short c = short_rule
