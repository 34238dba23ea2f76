use Rattle.volume_model.proofs.FreshVolume.{fresh_stands}
use Rattle.volume_model.proofs.a_fresh_volume_stands_for_the_empty_table.Goals as goal

pub returns : goal.returns
returns c = fresh_stands
