use Rattle.volume_model.proofs.NoneBad.{none_bad}
use Rattle.volume_model.proofs.an_image_without_a_bad_part_stands_for_a_table.Goals as goal

pub returns : goal.returns
returns c = none_bad
