use Rattle.volume_model.proofs.FirstParts.{one_part}
use Rattle.volume_model.proofs.one_first_bad_part.Goals as goal

pub returns : goal.returns
returns c = one_part
