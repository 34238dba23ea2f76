use Rattle.std.proofs.Common.{◌<◌}
use Rattle.version_lists.specs.Versions.{unique_of}
use Rattle.version_lists.specs.Changes.{created_in, edited_in, frozen_in, derived_in, without_in}
use Rattle.version_lists.proofs.Lists.{all_has}
use Rattle.version_lists.proofs.Links.{linked_all, all_linked}
use Rattle.version_lists.proofs.Changes.{created_linked, edited_linked, frozen_linked, derived_linked}
use Rattle.version_lists.proofs.Removal.{without_linked}
use Rattle.version_lists.proofs.laws.updates_keep_links.Goals as goal

pub returns-clause-create : goal.returns-clause-create
returns-clause-create c = λ oid vs linked below. all_linked (created_in oid vs) (created_linked oid vs (linked_all vs linked) (all_has (λ v. unique_of v < oid.unique) vs below))

pub returns-clause-edit : goal.returns-clause-edit
returns-clause-edit c = λ oid change vs linked. all_linked (edited_in oid change vs) (edited_linked oid change vs (linked_all vs linked))

pub returns-clause-freeze : goal.returns-clause-freeze
returns-clause-freeze c = λ oid copy vs linked none below.
    all_linked (frozen_in oid copy vs) (frozen_linked oid copy vs (linked_all vs linked) none (all_has (λ v. unique_of v < copy.unique) vs below))

pub returns-clause-derive : goal.returns-clause-derive
returns-clause-derive c = λ oid copy vs linked none below.
    all_linked (derived_in oid copy vs) (derived_linked oid copy vs (linked_all vs linked) none (all_has (λ v. unique_of v < copy.unique) vs below))

pub returns-clause-remove : goal.returns-clause-remove
returns-clause-remove c = λ oid vs linked leaves. all_linked (without_in oid vs) (without_linked oid vs (linked_all vs linked) leaves)
