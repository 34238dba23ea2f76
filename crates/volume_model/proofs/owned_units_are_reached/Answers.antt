use Rattle.volume_model.proofs.ExactView.{exact_shown, no_page_shown}
use Rattle.volume_model.proofs.owned_units_are_reached.Goals as goal

pub returns-clause-reached : goal.returns-clause-reached
returns-clause-reached c = exact_shown

pub returns-clause-apart : goal.returns-clause-apart
returns-clause-apart c = no_page_shown
