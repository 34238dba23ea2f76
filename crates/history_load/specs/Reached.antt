-- Which leaves and nodes a walk reached.
use Rattle.std.specs.Prelude.{◌≡◌, ◌≤◌, ℕ, Bool, true, false, List, Contains}
use Rattle.ex_base.specs.declared.geometry.Geometry.{Geometry}
use Rattle.object_files.specs.Catalog.{Catalog}
use Rattle.trees.specs.Trees.{Units}
use Rattle.volume_model.specs.Volume.{FileContent}
use Rattle.restart.specs.Content.{FilesHold, volume_of}
use Rattle.history_load.specs.Placed.{tree_units}
use Rattle.history_writes.specs.Places.{leaf_place, node_place}

-- the units of so many leaves are used
abbrev pub AreLeavesUsed : Geometry → (ℕ → Bool) → ℕ → Type 0
AreLeavesUsed g used leaves = (i : ℕ) → 1 ≤ i → i ≤ leaves → used (leaf_place g i) ≡ true

-- the pages of so many nodes are used, and no logged pages
abbrev pub AreNodesInTrees : (ℕ → Bool) → (ℕ → Bool) → ℕ → Type 0
AreNodesInTrees used held nodes = (i : ℕ) → 1 ≤ i → i ≤ nodes → (used (node_place i) ≡ true) × (held (node_place i) ≡ false)

-- Behind the catalog the units hold files with all parts, and so many leaves and nodes at their places are units of trees.
pub record IsWalked (g : Geometry) (units : Units) (c : Catalog) (leaves nodes : ℕ) : Type 0 where
  pub files : List FileContent
  pub holds : FilesHold g units c 6 files
  pub leaves_in : (i : ℕ) → 1 ≤ i → i ≤ leaves → Contains (tree_units units (volume_of c files)) (leaf_place g i)
  pub nodes_in : (i : ℕ) → 1 ≤ i → i ≤ nodes → Contains (tree_units units (volume_of c files)) (node_place i)
