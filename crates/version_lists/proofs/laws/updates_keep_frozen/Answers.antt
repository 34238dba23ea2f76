use Rattle.std.proofs.Common.{◌<◌}
use Rattle.version_lists.specs.Versions.{unique_of}
use Rattle.version_lists.specs.Changes.{created_in, edited_in, frozen_in, derived_in, without_in}
use Rattle.version_lists.proofs.Lists.{all_has, contains_has, rises_from}
use Rattle.version_lists.proofs.Contents.{created_others, edited_others, frozen_others, derived_others, without_others, still_frozen, newer_differs, current_differs}
use Rattle.version_lists.proofs.laws.updates_keep_frozen.Goals as goal

pub returns-clause-create : goal.returns-clause-create
returns-clause-create c = λ oid vs v up below there frozen.
    let m = contains_has vs v there in
    still_frozen vs (created_in oid vs) v (rises_from unique_of vs up) m frozen
    (created_others oid v.oid vs (newer_differs vs oid v (all_has (λ w. unique_of w < oid.unique) vs below) m))

pub returns-clause-edit : goal.returns-clause-edit
returns-clause-edit c = λ oid change vs v up none there frozen.
    let m = contains_has vs v there in
    still_frozen vs (edited_in oid change vs) v (rises_from unique_of vs up) m frozen
    (edited_others oid v.oid change vs (current_differs vs oid v (rises_from unique_of vs up) none m frozen))

pub returns-clause-freeze : goal.returns-clause-freeze
returns-clause-freeze c = λ oid copy vs v up below there frozen.
    let m = contains_has vs v there in
    still_frozen vs (frozen_in oid copy vs) v (rises_from unique_of vs up) m frozen
    (frozen_others oid copy v.oid vs (newer_differs vs copy v (all_has (λ w. unique_of w < copy.unique) vs below) m))

pub returns-clause-derive : goal.returns-clause-derive
returns-clause-derive c = λ oid copy vs v up below there frozen.
    let m = contains_has vs v there in
    still_frozen vs (derived_in oid copy vs) v (rises_from unique_of vs up) m frozen
    (derived_others oid copy v.oid vs (newer_differs vs copy v (all_has (λ w. unique_of w < copy.unique) vs below) m))

pub returns-clause-remove : goal.returns-clause-remove
returns-clause-remove c = λ oid vs v up there frozen differ.
    still_frozen vs (without_in oid vs) v (rises_from unique_of vs up) (contains_has vs v there) frozen (without_others oid v.oid vs differ)
