use Rattle.page_entries.proofs.RuleLaws.{rule_gives}
use Rattle.page_entries.proofs.laws.a_rule_entry_gives_the_page.Goals as goal

pub returns : goal.returns
returns c = rule_gives
