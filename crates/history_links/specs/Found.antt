-- What is found of versions one after the other: the older one of each, and what is derived from each.
use Rattle.std.specs.Prelude.{ℕ, ◌≡◌, ◌<◌, List, [], ◌∷◌, length, slice_index_or, slice_set, take, Option, Some, None, false}
use Rattle.ex_base.specs.declared.names.Place.{Place}
use Rattle.history_links.specs.declared.PlacedVersion.{PlacedVersion}
use Rattle.history_links.specs.declared.derived.Derived.{Derived}
use Rattle.history_links.specs.declared.derived.Derived.TheVariants.{Nothing, One, Several}
use Rattle.history_links.specs.Linked.{derived_from}

-- what stands behind the end of a list
abbrev pub nowhere : PlacedVersion
nowhere = record { unique = 0; frozen = false; older = None; place = record { page = record { 0 = 0 }; slot = 0 } }

-- the version at an index
abbrev pub version_at : List PlacedVersion → ℕ → PlacedVersion
version_at versions at = slice_index_or versions at nowhere

-- ---- older ones

-- The version at the index has the number.
abbrev pub IsNumbered : List PlacedVersion → ℕ → ℕ → Type 0
IsNumbered versions number at = (at < length versions) × ((version_at versions at).unique ≡ number)

-- No version has the number.
abbrev pub IsNoNumber : List PlacedVersion → ℕ → Type 0
IsNoNumber versions number = (k : ℕ) → k < length versions → (version_at versions k).unique ≡ number → ⊥

-- The version at the index is a version's older one, or none is.
abbrev pub OlderIs : List PlacedVersion → PlacedVersion → Option ℕ → Type 0
OlderIs versions v None = (number : ℕ) → v.older ≡ Some number → IsNoNumber versions number
OlderIs versions v (Some at) = (at < length versions) × (v.older ≡ Some (version_at versions at).unique)

-- Of each of the first n versions its older one is told.
pub record AreOlders (versions : List PlacedVersion) (n : ℕ) (olders : List (Option ℕ)) : Type 0 where
  pub len : length olders ≡ n
  pub each : (k : ℕ) → k < n → OlderIs versions (version_at versions k) (slice_index_or olders k None)

-- ---- derived ones

abbrev pub with_one : Derived → Place → Derived
with_one Nothing place = One place
with_one (One first) place = Several
with_one Several place = Several

-- what is told of versions that are derived from one
abbrev pub told : List PlacedVersion → Derived
told [] = Nothing
told (v ∷ []) = One v.place
told (v ∷ next ∷ rest) = Several

-- one more at an index, where there is one
abbrev pub counted : Option ℕ → Place → List Derived → List Derived
counted None place derived = derived
counted (Some at) place derived = slice_set derived at (with_one (slice_index_or derived at Nothing) place)

-- Of each version is told what of the first n ones is derived from it.
pub record AreDerived (versions : List PlacedVersion) (n : ℕ) (derived : List Derived) : Type 0 where
  pub len : length derived ≡ length versions
  pub each : (k : ℕ) → k < length versions → slice_index_or derived k Nothing ≡ told (derived_from (version_at versions k).unique (take n versions))
