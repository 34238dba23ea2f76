use Rattle.version_lists.proofs.Contents.{created_shows, edited_shows, frozen_shows, derived_shows, without_shows}
use Rattle.version_lists.proofs.laws.updates_show.Goals as goal

pub returns-clause-create : goal.returns-clause-create
returns-clause-create c = created_shows

pub returns-clause-edit : goal.returns-clause-edit
returns-clause-edit c = edited_shows

pub returns-clause-freeze : goal.returns-clause-freeze
returns-clause-freeze c = frozen_shows

pub returns-clause-derive : goal.returns-clause-derive
returns-clause-derive c = derived_shows

pub returns-clause-remove : goal.returns-clause-remove
returns-clause-remove c = without_shows
