-- The links of versions that have places, told by their numbers.
use Rattle.std.specs.Prelude.{ℕ, Bool, false, ◌==◌, if◌then◌else◌, List, [], ◌∷◌, map, filter, Option, Some, None}
use Rattle.ex_base.specs.declared.names.Place.{Place}
use Rattle.ex_base.specs.Order.{Rising}
use Rattle.history_links.specs.declared.PlacedVersion.{PlacedVersion}
use Rattle.history_links.specs.declared.Links.{Links}

abbrev pub number_in : PlacedVersion → ℕ
number_in v = v.unique

-- in order of their numbers, no two with one
abbrev pub NumbersRise : List PlacedVersion → Type 0
NumbersRise versions = Rising (map number_in versions)

-- the place of the version that has a number, if one does
abbrev pub place_numbered : List PlacedVersion → ℕ → Option Place
place_numbered [] number = None
place_numbered (v ∷ versions) number = if v.unique == number then Some v.place else place_numbered versions number

-- the place of a version's older one, if it has one that is there
abbrev pub place_if : List PlacedVersion → Option ℕ → Option Place
place_if versions None = None
place_if versions (Some number) = place_numbered versions number

abbrev pub is_number : ℕ → Option ℕ → Bool
is_number number None = false
is_number number (Some other) = number == other

-- it is derived from the version with the number
abbrev pub names_older : ℕ → PlacedVersion → Bool
names_older number v = is_number number v.older

-- the versions that are derived from the one with a number
abbrev pub derived_from : ℕ → List PlacedVersion → List PlacedVersion
derived_from number versions = filter (names_older number) versions

-- the place of the only one of these
abbrev pub only_place : List PlacedVersion → Option Place
only_place [] = None
only_place (v ∷ []) = Some v.place
only_place (v ∷ next ∷ rest) = None

-- A current version has no newer one. A frozen one's is the only one that is derived from it, and none where there are none or more.
abbrev pub newer_in : List PlacedVersion → PlacedVersion → Option Place
newer_in versions v = if v.frozen then only_place (derived_from v.unique versions) else None

abbrev pub links_of : List PlacedVersion → PlacedVersion → Links
links_of versions v = record { older = place_if versions v.older; newer = newer_in versions v }
