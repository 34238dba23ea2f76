use Rattle.volume_model.proofs.OwnersUpdated.{shown_lost, shown_released}
use Rattle.volume_model.proofs.roots_that_turn_keep_owners.Goals as goal

pub returns-clause-released : goal.returns-clause-released
returns-clause-released c d used refs gained lost scans disk working now gone come later made counts t =
    shown_released d used refs gained lost scans disk working t.shown now gone come t.turns t.there later t.kept t.came made counts t.owned

pub returns-clause-lost : goal.returns-clause-lost
returns-clause-lost c d used refs gained lost scans disk working now gone come later made counts t =
    shown_lost d used refs gained lost scans disk working t.shown now gone come t.turns t.there later t.kept t.came made counts t.owned
