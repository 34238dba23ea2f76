use Rattle.version_lists.proofs.Contents.{created_others, edited_others, frozen_others, derived_others, without_others}
use Rattle.version_lists.proofs.laws.updates_keep_others.Goals as goal

pub returns-clause-create : goal.returns-clause-create
returns-clause-create c = created_others

pub returns-clause-edit : goal.returns-clause-edit
returns-clause-edit c = edited_others

pub returns-clause-freeze : goal.returns-clause-freeze
returns-clause-freeze c = frozen_others

pub returns-clause-derive : goal.returns-clause-derive
returns-clause-derive c = derived_others

pub returns-clause-remove : goal.returns-clause-remove
returns-clause-remove c = without_others
