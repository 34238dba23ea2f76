use Rattle.volume_model.specs.Meaning.{no_part}
use Rattle.volume_model.proofs.a_table_has_no_bad_part.Goals as goal

pub returns : goal.returns
returns c = no_part
