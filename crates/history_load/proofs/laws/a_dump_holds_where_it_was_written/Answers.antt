use Rattle.history_load.proofs.DumpHolds.{holds}
use Rattle.history_load.proofs.laws.a_dump_holds_where_it_was_written.Goals as goal

pub returns : goal.returns
returns c g h t units catalog leaf node written well next of = holds g h t units catalog leaf node of written well next
