use Rattle.history_writes.proofs.Holding.{rows_are_files}
use Rattle.history_writes.proofs.laws.rows_of_pages_are_files.Goals as goal

pub returns : goal.returns
returns c = rows_are_files
