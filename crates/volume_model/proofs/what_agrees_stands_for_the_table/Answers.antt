use Rattle.volume_model.specs.CrashImage.{agrees_stands}
use Rattle.volume_model.proofs.what_agrees_stands_for_the_table.Goals as goal

pub returns : goal.returns
returns c = agrees_stands
