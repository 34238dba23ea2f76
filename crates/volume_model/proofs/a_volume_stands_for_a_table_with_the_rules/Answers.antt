use Rattle.volume_model.proofs.RulesOfTable.{stands_with_rules}
use Rattle.volume_model.proofs.a_volume_stands_for_a_table_with_the_rules.Goals as goal

pub returns : goal.returns
returns c = stands_with_rules
