use Rattle.version_lists.proofs.Changes.{edited_absent, frozen_absent, derived_absent, without_absent}
use Rattle.version_lists.proofs.laws.updates_elsewhere.Goals as goal

pub returns-clause-edit : goal.returns-clause-edit
returns-clause-edit c = edited_absent

pub returns-clause-freeze : goal.returns-clause-freeze
returns-clause-freeze c = frozen_absent

pub returns-clause-derive : goal.returns-clause-derive
returns-clause-derive c = derived_absent

pub returns-clause-remove : goal.returns-clause-remove
returns-clause-remove c = without_absent
