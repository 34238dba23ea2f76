-- What a cut leaves.
use Rattle.std.specs.Prelude.{◌≡◌, ◌⊎◌, ℕ, ◌+◌, ◌≤◌, List, [], ◌∷◌, length}
use Rattle.ex_base.specs.declared.geometry.Geometry.{Geometry}
use Rattle.ex_base.specs.declared.ground.Ground as ground
use Rattle.ex_base.specs.Sizes.{leaf_bytes}
use Rattle.trees.specs.Shape.{Subtree, IsRoot}
use Rattle.trees.specs.declared.rows.Part.{Part}
use Rattle.trees.specs.Rows.{AreHalfFull, AreTrees, row_bytes, row_shape, row_size, row_units}
use Rattle.trees.specs.Built.{AreSome}
use Rattle.trees.specs.Grown.{Grew, Turned}
use Rattle.tree_delete.specs.declared.cut.Cut.{Cut}
use Rattle.tree_delete.specs.Cuts.{all_of, sides, cut_bytes, AreHalves}

-- the numbers of a row that a cut leaves
pub record IsLeftOf (cut : Cut) (made : List Part) : Type 0 where
  pub sum : row_size made + cut.len ≡ row_size (all_of cut)
  pub sizes : AreSome made
  pub many : sides cut ≤ length made
  pub few : length made ≤ length (all_of cut) + 4

-- The row has the bytes that the cut leaves, over units that were taken or are the row's own. It stays half full, where some trees stay as they are.
pub record IsLeft {S : Type 0} (g : ground.Ghosts S) (old new : S) (l : ℕ) (cut : Cut) (made : List Part) : Type 0 where
  pub shape : List (Subtree l)
  pub grew : Grew g old new l (all_of cut) made (cut_bytes (g.unit old) l cut) shape
  pub halves : 1 ≤ sides cut → AreHalves (g.geometry old) l (row_shape (g.unit old) l (all_of cut)) → AreHalves (g.geometry old) l shape

-- a lone leaf, or leaves that are half full
abbrev pub AreRootLeaves : ℕ → List Part → Type 0
AreRootLeaves full row = (length row ≡ 1) ⊎ AreHalfFull full row

-- one root, or trees that may stand below one
abbrev pub AreRoots : Geometry → (l : ℕ) → List (Subtree l) → Type 0
AreRoots g l trees = AreHalves g l trees ⊎ ((tree : Subtree l) × (trees ≡ tree ∷ []) × IsRoot g.fan (leaf_bytes g) l tree)

-- The row of some level has these bytes, over units that were taken or are among those before, and may stand below a root.
pub record IsTrimmed {S : Type 0} (g : ground.Ghosts S) (old new : S) (before : List ℕ) (bytes : List ℕ) (l : ℕ) (made : List Part) : Type 0 where
  pub trees : AreTrees (g.geometry new) (g.unit new) l made
  pub bytes_are : row_bytes (g.unit new) l made ≡ bytes
  pub units : Turned g old new before (row_units (g.unit new) l made)
  pub roots : AreRoots (g.geometry new) l (row_shape (g.unit new) l made)
