use Rattle.command_line.proofs.UsageNumbers.{tells}
use Rattle.command_line.proofs.UsageDefaults.{tells_defaults}
use Rattle.command_line.proofs.laws.usage_tells_the_grammar.Goals as goal

pub returns-clause-numbers : goal.returns-clause-numbers
returns-clause-numbers c = λ command words after. tells after.items command

pub returns-clause-defaults : goal.returns-clause-defaults
returns-clause-defaults c = tells_defaults
