-- Worked rows: an object, its versions after some updates, and how they are listed.
use Rattle.std.specs.Prelude.{ℕ, List, [], ◌∷◌, map}
use Rattle.ex_base.specs.declared.names.Oid.{Oid}
use Rattle.version_lists.specs.declared.version.Version.{Version}
use Rattle.version_lists.specs.declared.version.Object.{Object}
use Rattle.version_lists.specs.Versions.{unique_of, listed}
use Rattle.version_lists.specs.Objects.{objects_formed}
use Rattle.version_lists.specs.Changes.{created_in, edited_in, frozen_in, derived_in}

-- in a slot of page 258
abbrev pub oid : ℕ → ℕ → Oid
oid slot number = record { page = record { 0 = 258 }; slot = slot; unique = number }

-- the numbers of each object's versions, as they are listed
abbrev pub numbers_listed : List Version → List (List ℕ)
numbers_listed vs = map (λ (o : Object). map unique_of (listed o.versions)) (objects_formed vs)

-- an object of one byte, of number 1
abbrev pub base : List Version
base = edited_in (oid 0 1) (λ bytes. 7 ∷ []) (created_in (oid 0 1) [])

-- frozen twice, with an edit between
abbrev pub twice_frozen : List Version
twice_frozen = frozen_in (oid 0 1) (oid 2 3) (edited_in (oid 0 1) (λ bytes. 8 ∷ []) (frozen_in (oid 0 1) (oid 1 2) base))

-- frozen, and one derived from the frozen version
abbrev pub branched : List Version
branched = derived_in (oid 1 2) (oid 2 3) (frozen_in (oid 0 1) (oid 1 2) base)
