use Rattle.history_model.proofs.SameTables.{any_areas}
use Rattle.history_model.proofs.laws.a_dump_fits_any_areas.Goals as goal

pub returns : goal.returns
returns c = any_areas
