-- What a delete makes of a tree.
use Rattle.std.specs.Prelude.{ℕ, [], ◌∷◌}
use Rattle.ex_base.specs.declared.names.Root.{Root}
use Rattle.ex_base.specs.declared.ground.Ground as ground
use Rattle.ex_base.specs.Edits.{deleted}
use Rattle.ex_base.specs.Sizes.{leaf_bytes}
use Rattle.trees.specs.Shape.{IsRoot}
use Rattle.trees.specs.Trees.{RootSpells, root_units, bytes_on, shape_on, units_on}
use Rattle.trees.specs.declared.rows.Part.{Part}
use Rattle.trees.specs.Made.{Holds}
use Rattle.trees.specs.Grown.{Turned}

-- the tree of a root, over used units
pub record TreeSpells {S : Type 0} (g : ground.Ghosts S) (s : S) (l : ℕ) (tree : Part) : Type 0 where
  pub holds : Holds g s l (tree ∷ [])
  pub root : IsRoot (g.geometry s).fan (leaf_bytes (g.geometry s)) l (shape_on (g.unit s) l tree.page.0 tree.size)

-- The root spells the bytes of the tree without some of them, over units that were taken and units of the tree.
pub record IsCutTree {S : Type 0} (g : ground.Ghosts S) (old new : S) (l : ℕ) (tree : Part) (pos len : ℕ) (made : Root) : Type 0 where
  pub spells : RootSpells (g.geometry new) (g.unit new) made (deleted (bytes_on (g.unit old) l tree.page.0 tree.size) pos len)
  pub units : Turned g old new (units_on (g.unit old) l tree.page.0) (root_units (g.unit new) made)
