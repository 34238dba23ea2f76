-- What an insert or an append makes of a root.
use Rattle.std.specs.Prelude.{◌≡◌, ℕ, List, length}
use Rattle.ex_base.specs.declared.names.Root.{Root}
use Rattle.ex_base.specs.declared.ground.Ground as ground
use Rattle.ex_base.specs.Edits.{inserted}
use Rattle.ex_base.specs.Sizes.{leaf_bytes}
use Rattle.trees.specs.Shape.{Subtree, Shape, one_tree, ins_shape, app_shape}
use Rattle.trees.specs.Trees.{RootSpells, root_shape, root_units}
use Rattle.trees.specs.declared.rows.Part.{Part}
use Rattle.trees.specs.Rows.{row_units}
use Rattle.trees.specs.Made.{Holds}
use Rattle.trees.specs.Grown.{Turned, Grew}
use Rattle.tree_insert.specs.declared.layout.Growth.{Growth}
use Rattle.tree_insert.specs.declared.layout.Growth.TheVariants.{Insert, Append}

-- the shape of the whole tree
abbrev pub shape_by : Growth → ℕ → ℕ → Shape → ℕ → ℕ → Shape
shape_by Insert fan full shape pos n = ins_shape fan full shape pos n
shape_by Append fan full shape pos n = app_shape fan full shape n

-- The trees of a level came in the place of a root's tree, or are the first leaves.
pub record GrewRoot {S : Type 0} (g : ground.Ghosts S) (old new : S) (growth : Growth) (l : ℕ) (root : Root) (made : List Part) (bytes : List ℕ) (pos : ℕ) (given : List ℕ) : Type 0 where
  pub was : List Part
  pub holds : Holds g old l was
  pub units : row_units (g.unit old) l was ≡ root_units (g.unit old) root
  pub parts : List (Subtree l)
  pub grew : Grew g old new l was made (inserted bytes pos given) parts
  pub shape : one_tree (g.geometry old).fan l parts ≡ shape_by growth (g.geometry old).fan (leaf_bytes (g.geometry old)) (root_shape (g.unit old) root) pos (length given)

-- The new root spells the edited bytes, in the tree that the leaf plans fix, over units that were taken and units of the old tree.
pub record IsEdited {S : Type 0} (g : ground.Ghosts S) (old new : S) (growth : Growth) (root made : Root) (bytes : List ℕ) (pos : ℕ) (given : List ℕ) : Type 0 where
  pub spells : RootSpells (g.geometry new) (g.unit new) made (inserted bytes pos given)
  pub shape : root_shape (g.unit new) made ≡ shape_by growth (g.geometry old).fan (leaf_bytes (g.geometry old)) (root_shape (g.unit old) root) pos (length given)
  pub units : Turned g old new (root_units (g.unit old) root) (root_units (g.unit new) made)
