use Rattle.table_model.proofs.FrozenStays.{commit_keeps_frozen, abort_shows_frozen, steps_keep_frozen}
use Rattle.table_model.proofs.laws.a_frozen_version_stays.Goals as goal

pub returns-clause-stays : goal.returns-clause-stays
returns-clause-stays c = steps_keep_frozen

pub returns-clause-committed : goal.returns-clause-committed
returns-clause-committed c = commit_keeps_frozen

pub returns-clause-abort : goal.returns-clause-abort
returns-clause-abort c = abort_shows_frozen
