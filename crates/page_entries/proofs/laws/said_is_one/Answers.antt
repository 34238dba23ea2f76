use Rattle.page_entries.proofs.ReadAgain.{one_said}
use Rattle.page_entries.proofs.laws.said_is_one.Goals as goal

pub returns : goal.returns
returns c = one_said
