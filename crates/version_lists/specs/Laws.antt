-- What holds of lists of versions.
use Rattle.std.specs.Prelude.{ℕ, ◌≡◌, ◌≢◌, ◌<◌, ◌≤◌, ◌↔◌, List, [], ◌∷◌, length, map, find, flat_map, true, false, Some, None, option_map, All, AllPairs, Contains}
use Rattle.std.specs.List.Sorted.{IsPermutation}
use Rattle.ex_base.specs.declared.names.Oid.{Oid}
use Rattle.version_lists.specs.declared.version.Version.{Version}
use Rattle.version_lists.specs.declared.version.Object.{Object}
use Rattle.version_lists.specs.Sorted.{in_order, Rise}
use Rattle.version_lists.specs.Versions.{unique_of, has_oid, Differ, AreLinked, EndsAtFirst, listed}
use Rattle.version_lists.specs.Objects.{objects_formed, versions_of_all, least_of, IsTree, BeginsWithFirst}
use Rattle.version_lists.specs.Changes.{created_in, edited_in, frozen_in, derived_in, without_in, NoneFrozen, NoneCurrent, LeavesOne, NotBranched, content_at, edited_content, frozen_content, current_content}
use Rattle.version_lists.specs.Rows.{oid, numbers_listed, twice_frozen, branched}

-- ---- versions put in order of their numbers

-- they are the same versions in another order
abbrev pub OrderIsAPermutation : Type 0
OrderIsAPermutation = (vs : List Version) → IsPermutation vs (in_order unique_of vs)

-- their numbers rise, where no two are one
abbrev pub OrderRises : Type 0
OrderRises = (vs : List Version) → AllPairs Differ vs → Rise (map unique_of (in_order unique_of vs))

-- a list that rises is left as it is
abbrev pub OrderLeavesWhatRises : Type 0
OrderLeavesWhatRises = (vs : List Version) → Rise (map unique_of vs) → in_order unique_of vs ≡ vs

-- a change that keeps the numbers may be made before or after
abbrev pub OrderKeepsChanges : Type 0
OrderKeepsChanges = (change : Version → Version) (vs : List Version)
    → ((v : Version) → unique_of (change v) ≡ unique_of v) → in_order unique_of (map change vs) ≡ map change (in_order unique_of vs)

-- two lists that rise and have the same versions are one
abbrev pub RisingListsAgree : Type 0
RisingListsAgree = (vs ws : List Version) → Rise (map unique_of vs) → Rise (map unique_of ws)
    → ((v : Version) → Contains vs v ↔ Contains ws v) → vs ≡ ws

-- ---- the objects that versions form

-- from each version one comes to a first one
abbrev pub ClimbsEnd : Type 0
ClimbsEnd = (vs : List Version) (v : Version) → AreLinked vs → Contains vs v → EndsAtFirst vs v

-- objects have all the versions that they are formed of, and no other
abbrev pub ObjectsHaveAllVersions : Type 0
ObjectsHaveAllVersions = (vs : List Version) → AreLinked vs → versions_of_all (objects_formed vs) ≡ vs

-- and each just once
abbrev pub ObjectsHaveEachOnce : Type 0
ObjectsHaveEachOnce = (vs : List Version) → AreLinked vs → IsPermutation vs (flat_map (λ (o : Object). o.versions) (objects_formed vs))

abbrev pub ObjectsAreTrees : Type 0
ObjectsAreTrees = (vs : List Version) → AreLinked vs → All (λ (o : Object). IsTree o.versions) (objects_formed vs)

-- they stand in order of their least numbers
abbrev pub ObjectsRise : Type 0
ObjectsRise = (vs : List Version) → AreLinked vs → Rise (map least_of (objects_formed vs))

-- and they are formed again of their own versions
abbrev pub FormingIsFixed : Type 0
FormingIsFixed = (vs : List Version) → AreLinked vs → objects_formed (versions_of_all (objects_formed vs)) ≡ objects_formed vs

-- The versions of trees are linked, where no two have one number.
abbrev pub TreesAreLinked : Type 0
TreesAreLinked = (os : List Object) → All (λ (o : Object). IsTree o.versions) os → AllPairs Differ (flat_map (λ (o : Object). o.versions) os)
    → AreLinked (versions_of_all os)

-- Trees in order of their least numbers are just the objects that their versions form.
abbrev pub TreesAreFormed : Type 0
TreesAreFormed = (os : List Object) → All (λ (o : Object). IsTree o.versions) os → AllPairs Differ (flat_map (λ (o : Object). o.versions) os)
    → Rise (map least_of os) → objects_formed (versions_of_all os) ≡ os

-- ---- the versions of an object, as they are listed

-- each of them once
abbrev pub AllAreListedOnce : Type 0
AllAreListedOnce = (versions : List Version) → IsTree versions → IsPermutation versions (listed versions)

abbrev pub FirstIsListedFirst : Type 0
FirstIsListedFirst = (versions : List Version) → IsTree versions → BeginsWithFirst (listed versions)

-- ---- worked rows

-- two freezes of an object list its frozen versions, the older one first, and then the current one
abbrev pub FreezesAreListed : Type 0
FreezesAreListed = numbers_listed twice_frozen ≡ (2 ∷ 3 ∷ 1 ∷ []) ∷ []

-- a drop of the newer frozen one leaves the others
abbrev pub DropIsListed : Type 0
DropIsListed = numbers_listed (without_in (oid 2 3) twice_frozen) ≡ (2 ∷ 1 ∷ []) ∷ []

-- both versions that are derived from one are listed behind it, in order of their numbers
abbrev pub BranchIsListed : Type 0
BranchIsListed = numbers_listed branched ≡ (2 ∷ 1 ∷ 3 ∷ []) ∷ []

-- without the one of them, and then without that from which both were derived, the other is left
abbrev pub OneIsLeft : Type 0
OneIsLeft = numbers_listed (without_in (oid 1 2) (without_in (oid 0 1) branched)) ≡ (3 ∷ []) ∷ []

-- ---- the updates keep versions linked, and in order

-- the new version's number is above all others
abbrev pub CreatingKeepsLinks : Type 0
CreatingKeepsLinks = (oid : Oid) (vs : List Version) → AreLinked vs → All (λ v. unique_of v < oid.unique) vs → AreLinked (created_in oid vs)

abbrev pub EditingKeepsLinks : Type 0
EditingKeepsLinks = (oid : Oid) (change : List ℕ → List ℕ) (vs : List Version) → AreLinked vs → AreLinked (edited_in oid change vs)

abbrev pub FreezingKeepsLinks : Type 0
FreezingKeepsLinks = (oid copy : Oid) (vs : List Version)
    → AreLinked vs → NoneFrozen oid vs → All (λ v. unique_of v < copy.unique) vs → AreLinked (frozen_in oid copy vs)

abbrev pub DerivingKeepsLinks : Type 0
DerivingKeepsLinks = (oid copy : Oid) (vs : List Version)
    → AreLinked vs → NoneCurrent oid vs → All (λ v. unique_of v < copy.unique) vs → AreLinked (derived_in oid copy vs)

-- of a frozen version, and of a current one where others are derived from what it is derived from
abbrev pub RemovingKeepsLinks : Type 0
RemovingKeepsLinks = (oid : Oid) (vs : List Version) → AreLinked vs → LeavesOne oid vs → AreLinked (without_in oid vs)

-- No object falls apart by the removal of a version from which at most one is derived.
abbrev pub RemovingSplitsNone : Type 0
RemovingSplitsNone = (oid : Oid) (vs : List Version)
    → AreLinked vs → NotBranched oid vs → length (objects_formed (without_in oid vs)) ≤ length (objects_formed vs)

-- ---- an update of a version that isn't among these changes none of them

abbrev pub EditElsewhere : Type 0
EditElsewhere = (oid : Oid) (change : List ℕ → List ℕ) (vs : List Version) → find (has_oid oid) vs ≡ None → edited_in oid change vs ≡ vs

abbrev pub FreezeElsewhere : Type 0
FreezeElsewhere = (oid copy : Oid) (vs : List Version) → find (has_oid oid) vs ≡ None → frozen_in oid copy vs ≡ vs

abbrev pub DeriveElsewhere : Type 0
DeriveElsewhere = (oid copy : Oid) (vs : List Version) → find (has_oid oid) vs ≡ None → derived_in oid copy vs ≡ vs

abbrev pub RemoveElsewhere : Type 0
RemoveElsewhere = (oid : Oid) (vs : List Version) → find (has_oid oid) vs ≡ None → without_in oid vs ≡ vs

-- ---- what is seen of the version that an update names or makes

abbrev pub CreatedIsEmpty : Type 0
CreatedIsEmpty = (oid : Oid) (vs : List Version) → content_at oid vs ≡ None → content_at oid (created_in oid vs) ≡ Some (false, [])

abbrev pub EditedIsChanged : Type 0
EditedIsChanged = (oid : Oid) (change : List ℕ → List ℕ) (vs : List Version)
    → content_at oid (edited_in oid change vs) ≡ option_map (edited_content change) (content_at oid vs)

-- frozen, with the bytes of the version that it is a copy of
abbrev pub FreezeIsACopy : Type 0
FreezeIsACopy = (oid copy : Oid) (vs : List Version)
    → content_at copy vs ≡ None → content_at copy (frozen_in oid copy vs) ≡ option_map frozen_content (content_at oid vs)

-- current, with the bytes of the version that it is derived from
abbrev pub DerivedIsACopy : Type 0
DerivedIsACopy = (oid copy : Oid) (vs : List Version)
    → content_at copy vs ≡ None → content_at copy (derived_in oid copy vs) ≡ option_map current_content (content_at oid vs)

abbrev pub RemovedIsGone : Type 0
RemovedIsGone = (oid : Oid) (vs : List Version) → content_at oid (without_in oid vs) ≡ None

-- ---- what is seen of each other one: the same

abbrev pub CreatingKeepsOthers : Type 0
CreatingKeepsOthers = (oid other : Oid) (vs : List Version) → other ≢ oid → content_at other (created_in oid vs) ≡ content_at other vs

abbrev pub EditingKeepsOthers : Type 0
EditingKeepsOthers = (oid other : Oid) (change : List ℕ → List ℕ) (vs : List Version)
    → other ≢ oid → content_at other (edited_in oid change vs) ≡ content_at other vs

abbrev pub FreezingKeepsOthers : Type 0
FreezingKeepsOthers = (oid copy other : Oid) (vs : List Version) → other ≢ copy → content_at other (frozen_in oid copy vs) ≡ content_at other vs

abbrev pub DerivingKeepsOthers : Type 0
DerivingKeepsOthers = (oid copy other : Oid) (vs : List Version) → other ≢ copy → content_at other (derived_in oid copy vs) ≡ content_at other vs

abbrev pub RemovingKeepsOthers : Type 0
RemovingKeepsOthers = (oid other : Oid) (vs : List Version) → other ≢ oid → content_at other (without_in oid vs) ≡ content_at other vs

-- ---- a frozen version keeps its bytes, and stays frozen

abbrev pub CreatingKeepsFrozen : Type 0
CreatingKeepsFrozen = (oid : Oid) (vs : List Version) (v : Version) → Rise (map unique_of vs) → All (λ w. unique_of w < oid.unique) vs
    → Contains vs v → v.frozen ≡ true → content_at v.oid (created_in oid vs) ≡ Some (true, v.bytes)

abbrev pub EditingKeepsFrozen : Type 0
EditingKeepsFrozen = (oid : Oid) (change : List ℕ → List ℕ) (vs : List Version) (v : Version) → Rise (map unique_of vs) → NoneFrozen oid vs
    → Contains vs v → v.frozen ≡ true → content_at v.oid (edited_in oid change vs) ≡ Some (true, v.bytes)

abbrev pub FreezingKeepsFrozen : Type 0
FreezingKeepsFrozen = (oid copy : Oid) (vs : List Version) (v : Version) → Rise (map unique_of vs) → All (λ w. unique_of w < copy.unique) vs
    → Contains vs v → v.frozen ≡ true → content_at v.oid (frozen_in oid copy vs) ≡ Some (true, v.bytes)

abbrev pub DerivingKeepsFrozen : Type 0
DerivingKeepsFrozen = (oid copy : Oid) (vs : List Version) (v : Version) → Rise (map unique_of vs) → All (λ w. unique_of w < copy.unique) vs
    → Contains vs v → v.frozen ≡ true → content_at v.oid (derived_in oid copy vs) ≡ Some (true, v.bytes)

abbrev pub RemovingKeepsFrozen : Type 0
RemovingKeepsFrozen = (oid : Oid) (vs : List Version) (v : Version) → Rise (map unique_of vs)
    → Contains vs v → v.frozen ≡ true → v.oid ≢ oid → content_at v.oid (without_in oid vs) ≡ Some (true, v.bytes)
