-- The objects that versions form.
use Rattle.std.specs.Prelude.{ℕ, ◌≡◌, List, [], ◌∷◌, length, map, filter, flat_map, ◌==◌, true, All}
use Rattle.version_lists.specs.declared.version.Version.{Version}
use Rattle.version_lists.specs.declared.version.Object.{Object}
use Rattle.version_lists.specs.Sorted.{in_order, Rise}
use Rattle.version_lists.specs.Versions.{unique_of, is_first, first_number, IsLinked}

abbrev pub object_from : List Version → Version → Object
object_from vs first = record { versions = filter (λ v. first_number (length vs) vs v == unique_of first) vs }

abbrev pub least_in : List Version → ℕ
least_in [] = 0
least_in (v ∷ vs) = unique_of v

-- an object's least number
abbrev pub least_of : Object → ℕ
least_of o = least_in o.versions

-- The objects that the versions of a file form, these in order of their numbers: those versions are of one object that are reached from one first version.
-- Objects stand in order of their least numbers.
abbrev pub objects_formed : List Version → List Object
objects_formed vs = in_order least_of (map (object_from vs) (filter is_first vs))

-- the versions of these objects, in order of their numbers
abbrev pub versions_of_all : List Object → List Version
versions_of_all os = in_order unique_of (flat_map (λ o. o.versions) os)

-- An object is a tree of versions, listed in order of their numbers: one of them has no older one, and each other one is derived from a frozen one of them.
-- A current version has none that is derived from it.
pub record IsTree (versions : List Version) : Type 0 where
  pub rise : Rise (map unique_of versions)
  pub one : length (filter is_first versions) ≡ 1
  pub each : All (IsLinked versions) versions

-- A first version comes first.
pub record BeginsWithFirst (versions : List Version) : Type 0 where
  pub first : Version
  pub rest : List Version
  pub begins : versions ≡ first ∷ rest
  pub is : is_first first ≡ true
