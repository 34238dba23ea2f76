use Rattle.history_load.proofs.StandingPieces.{of_table}
use Rattle.history_load.proofs.laws.a_history_that_stands_is_of_its_table.Goals as goal

pub returns : goal.returns
returns c g records units v h leaf node parts rules items lengths pages on = of_table g records units v h leaf node parts items lengths on rules pages
