-- What is read of a tree, of a record and of a version stays where their units keep their bytes.
use Rattle.std.proofs.Common.{ℕ, zero, suc, List, Option, Some, None, inl, inr}
use Rattle.std.specs.List.{AllByRecursion}
use Rattle.ex_base.specs.declared.names.PageNo.{PageNo}
use Rattle.ex_base.specs.declared.names.Root.{Root}
use Rattle.ex_base.specs.declared.geometry.Geometry.{Geometry}
use Rattle.ex_base.specs.Area.{IsUnit}
use Rattle.ex_base.proofs.Each.{each_as, each_joined, each_parted}
use Rattle.trees.specs.declared.Pair.{Pair}
use Rattle.trees.specs.Node.{pairs_on}
use Rattle.trees.specs.Trees.{Units, units_on, IsNamed, root_units_at, RootNamed}
use Rattle.volume_model.specs.Volume.{Stored, root_in, roots_in}
pub use Rattle.trees.proofs.KeptRoots.{RootKept, bytes_of_root, named_root, shape_of_root, sized_root, spelled_root, units_of_root}
pub use Rattle.volume_model.specs.SameVolume.{RootsKept, StoredKept, balance_kept, content_same, files_same, objects_kept, stored_same, version_same, versions_same}

-- ---- a tree's units are units of the volume

pub units_placed : (g : Geometry) (units : Units) (l page : ℕ) → IsNamed g units l page → AllByRecursion (IsUnit g) (units_on units l page)
units_placed g units zero page h = (inr h, tt)
units_placed g units (suc l) page h = (
  inl h.0,
  each_joined (IsUnit g) (λ (pair : Pair). units_on units l pair.page.0) (pairs_on (units page))
      (each_as (λ (pair : Pair). IsNamed g units l pair.page.0) (λ (pair : Pair). AllByRecursion (IsUnit g) (units_on units l pair.page.0)) (pairs_on (units page)) (λ pair n. units_placed g units l pair.page.0 n) h.2),
)

pub root_placed : (g : Geometry) (units : Units) (height : ℕ) (page : Option PageNo) → RootNamed g units height page → AllByRecursion (IsUnit g) (root_units_at units height page)
root_placed g units height None h = tt
root_placed g units height (Some page) h = units_placed g units height page.0 h

-- the roots of records, record by record
pub roots_of_stored : (P : Root → Type 0) (stored : List Stored) → AllByRecursion P (roots_in stored) → AllByRecursion (λ (s : Stored). AllByRecursion P (root_in s.body.content)) stored
roots_of_stored P stored h = each_parted P (λ (s : Stored). root_in s.body.content) stored h
