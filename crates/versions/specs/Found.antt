-- What is told of a record, and which bodies a call can tell of.
use Rattle.std.specs.Prelude.{◌≡◌, ℕ, List, length}
use Rattle.ex_base.specs.declared.ground.Ground as ground
use Rattle.ex_base.specs.declared.geometry.Geometry.{Geometry}
use Rattle.ex_base.specs.declared.names.Place.{Place}
use Rattle.object_records.specs.Record.{Content, Small, Large, Record, BodyOf}
use Rattle.file_bodies.specs.Files.{HasSomeBody}
use Rattle.trees.specs.Roots.{IsRootFor}
pub use Rattle.versions.specs.Versions.{root_of}
use Rattle.versions.specs.declared.finding.Found.{Found}

-- the bytes of the version
abbrev pub size_of : Content → ℕ
size_of (Small bytes) = length bytes
size_of (Large root) = root.size

abbrev pub found_of : Record → Found
found_of r = record { head = r.head; size = size_of r.content; root = root_of r.content }

-- the root of a large version has its numbers in their limits
abbrev pub HasLimits : Geometry → Content → Type 0
HasLimits g (Small bytes) = Unit {0}
HasLimits g (Large root) = IsRootFor g root

-- The body is a record in its limits.
pub record IsRecordBody (g : Geometry) (body : List ℕ) : Type 0 where
  pub is : Record
  pub spelled : BodyOf body is
  pub limits : HasLimits g is.content

-- what stands at the place, if anything does, is a record in its limits
abbrev pub IsReadable : {S : Type 0} → ground.Ghosts S → S → Place → Type 0
IsReadable g s place = (body : List ℕ) → HasSomeBody g s place body → IsRecordBody (g.geometry s) body

-- This is told of the body: it is a record with this number, in its limits.
pub record IsTold (g : Geometry) (unique : ℕ) (body : List ℕ) (found : Found) : Type 0 where
  pub is : Record
  pub spelled : BodyOf body is
  pub limits : HasLimits g is.content
  pub number : is.head.unique ≡ unique
  pub told : found ≡ found_of is
