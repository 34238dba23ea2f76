use Rattle.page_entries.proofs.ReadAgain.{read_again}
use Rattle.page_entries.proofs.laws.said_is_read.Goals as goal

pub returns : goal.returns
returns c = read_again
