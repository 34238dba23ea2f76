use Rattle.memory_host.proofs.Choosing.{alike}
use Rattle.memory_host.proofs.laws.equal_choices_are_one_choice.Goals as goal

pub returns : goal.returns
returns c = alike
