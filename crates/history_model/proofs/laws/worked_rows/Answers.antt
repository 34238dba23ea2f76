use Rattle.history_model.proofs.WorkedRows.{base_refused, base_spelled}
use Rattle.std.proofs.Common.{refl}
use Rattle.history_model.proofs.laws.worked_rows.Goals as goal

pub returns-clause-stream : goal.returns-clause-stream
returns-clause-stream c = λ g page_size seg_len fan. (base_spelled g page_size seg_len fan, refl)

pub returns-clause-sizes : goal.returns-clause-sizes
returns-clause-sizes c = (refl, refl)

pub returns-clause-refused : goal.returns-clause-refused
returns-clause-refused c = (base_refused, refl, refl, refl)
