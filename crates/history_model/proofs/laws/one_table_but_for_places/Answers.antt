use Rattle.history_model.proofs.SameTables.{one_table}
use Rattle.history_model.proofs.laws.one_table_but_for_places.Goals as goal

pub returns : goal.returns
returns c = one_table
