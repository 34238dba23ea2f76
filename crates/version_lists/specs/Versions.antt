-- Versions, and which of them is derived from which.
use Rattle.std.specs.Prelude.{ℕ, zero, suc, ◌<◌, ◌≤◌, ◌≡◌, ◌≢◌, List, [], ◌∷◌, length, map, filter, find, flat_map, Bool, true, false, ◌&&◌, ◌==◌, Option, Some, None, IfSome, is_none, All, Contains}
use Rattle.ex_base.specs.declared.names.Oid.{Oid}
use Rattle.version_lists.specs.declared.version.Version.{Version}
use Rattle.version_lists.specs.Sorted.{Rise}

abbrev pub same_oid : Oid → Oid → Bool
same_oid a b = (a.page.0 == b.page.0) && (a.slot == b.slot) && (a.unique == b.unique)

abbrev pub has_oid : Oid → Version → Bool
has_oid oid v = same_oid v.oid oid

abbrev pub unique_of : Version → ℕ
unique_of v = v.oid.unique

-- no two versions have one number
abbrev pub Differ : Version → Version → Type 0
Differ v w = unique_of v ≢ unique_of w

-- ---- which version is derived from which

-- it has no older version
abbrev pub is_first : Version → Bool
is_first v = is_none v.older

abbrev pub is_number : ℕ → Option ℕ → Bool
is_number number None = false
is_number number (Some n) = n == number

-- it is derived from the version with a number
abbrev pub is_derived_from : ℕ → Version → Bool
is_derived_from number v = is_number number v.older

abbrev pub derived_from : ℕ → List Version → List Version
derived_from number vs = filter (is_derived_from number) vs

-- the version with a number
abbrev pub numbered_in : List Version → Option ℕ → Option Version
numbered_in vs None = None
numbered_in vs (Some number) = find (λ v. unique_of v == number) vs

abbrev pub climbed : (Version → ℕ) → ℕ → Option Version → ℕ
climbed climb here None = here
climbed climb here (Some older) = climb older

-- the number of the version that is reached by at most n steps from a version to the one that it is derived from
unfoldable pub first_number : ℕ → List Version → Version → ℕ
first_number zero vs v = unique_of v
first_number (suc n) vs v = climbed (first_number n vs) (unique_of v) (numbered_in vs v.older)

-- a version, and then those that are derived from it, each with all that is derived from it in turn, n levels deep
unfoldable pub listed_from : ℕ → List Version → Version → List Version
listed_from zero vs v = v ∷ []
listed_from (suc n) vs v = v ∷ flat_map (listed_from n vs) (derived_from (unique_of v) vs)

-- the versions of an object, from its first one on. No way from a version to another is longer than the list.
abbrev pub listed : List Version → List Version
listed vs = flat_map (listed_from (length vs) vs) (filter is_first vs)

-- ---- the rules

-- The number is that of a frozen version among these. It is lower than that of a frozen version which is derived from it.
pub record IsOlder (vs : List Version) (v : Version) (number : ℕ) : Type 0 where
  pub older : Version
  pub there : Contains vs older
  pub number_is : unique_of older ≡ number
  pub frozen : older.frozen ≡ true
  pub lower : v.frozen ≡ true → number < unique_of v

-- The version's older one is there, and a frozen version has one that is derived from it.
pub record IsLinked (vs : List Version) (v : Version) : Type 0 where
  pub older : IfSome v.older (IsOlder vs v)
  pub derived : v.frozen ≡ true → 1 ≤ length (derived_from (unique_of v) vs)

-- Versions in order of their numbers, each of them linked. So no two have one number, and a current one has none that is derived from it.
pub record AreLinked (vs : List Version) : Type 0 where
  pub rise : Rise (map unique_of vs)
  pub each : All (IsLinked vs) vs

-- what a climb from a version ends at, however many steps it may have beyond those that the list is long: a first version of the list
pub record EndsAtFirst (vs : List Version) (v : Version) : Type 0 where
  pub first : Version
  pub there : Contains vs first
  pub is : is_first first ≡ true
  pub number : (n : ℕ) → length vs ≤ n → first_number n vs v ≡ unique_of first
