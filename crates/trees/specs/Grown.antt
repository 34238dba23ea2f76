-- What an edit leaves.
use Rattle.std.specs.Prelude.{◌≡◌, ◌⊎◌, ℕ, ◌≤◌, List, length}
use Rattle.std.specs.List.{AllByRecursion}
use Rattle.ex_base.specs.declared.names.Root.{Root}
use Rattle.ex_base.specs.declared.ground.Ground as ground
use Rattle.trees.specs.Shape.{Subtree, rooted}
use Rattle.trees.specs.Trees.{root_shape, root_bytes, root_units, RootNamed, RootSized}
use Rattle.trees.specs.declared.rows.Part.{Part}
use Rattle.trees.specs.Rows.{AreTrees, row_bytes, row_shape, row_units}
use Rattle.trees.specs.Made.{Has, IsTaken}
use Rattle.trees.specs.Counted.{Counted, NamesPairs}

-- Each unit of a tree was taken or is one of the units before, and each unit that was taken is one of
-- the tree's. What the new nodes name is counted.
pub record Turned {S : Type 0} (g : ground.Ghosts S) (old new : S) (before after : List ℕ) : Type 0 where
  pub own : AllByRecursion (λ p. IsTaken g old new p ⊎ Has before p) after
  pub all : (p : ℕ) → IsTaken g old new p → Has after p
  pub counts : NamesPairs g → Counted g old new

-- the root holds the row, under new nodes
pub record IsRooted {S : Type 0} (g : ground.Ghosts S) (old new : S) (l : ℕ) (row : List Part) (root : Root) : Type 0 where
  pub named : RootNamed (g.geometry new) (g.unit new) root.height root.page
  pub sized : RootSized (g.geometry new) (g.unit new) root.height root.size root.page
  pub bytes : root_bytes (g.unit new) root ≡ row_bytes (g.unit old) l row
  pub shape : (levels : ℕ) → length row ≤ levels → root_shape (g.unit new) root ≡ rooted (g.geometry old).fan levels l (row_shape (g.unit old) l row)
  pub units : Turned g old new (row_units (g.unit old) l row) (root_units (g.unit new) root)
  pub stay : (p : ℕ) → Has (row_units (g.unit old) l row) p → Has (root_units (g.unit new) root) p

-- A row gave way to another one, over units that were taken or are its own.
pub record Grew {S : Type 0} (g : ground.Ghosts S) (old new : S) (l : ℕ) (was now : List Part) (bytes : List ℕ) (shape : List (Subtree l)) : Type 0 where
  pub trees : AreTrees (g.geometry new) (g.unit new) l now
  pub bytes_are : row_bytes (g.unit new) l now ≡ bytes
  pub shape_is : row_shape (g.unit new) l now ≡ shape
  pub units : Turned g old new (row_units (g.unit old) l was) (row_units (g.unit new) l now)
