use Rattle.volume_model.proofs.OpenedView.{opened_view}
use Rattle.volume_model.proofs.an_opened_volume_shows_its_table.Goals as goal

pub returns : goal.returns
returns c d image disk log used refs held table was stands committed stayed knows owns = opened_view d was stands committed stayed knows owns
