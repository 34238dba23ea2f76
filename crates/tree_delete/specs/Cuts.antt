-- Cuts through rows of trees.
use Rattle.std.specs.Prelude.{◌≡◌, ◌⊎◌, ℕ, zero, suc, ◌+◌, ◌-◌, ◌*◌, ◌≤◌, List, [], ◌++◌, length}
use Rattle.std.specs.List.{AllByRecursion}
use Rattle.ex_base.specs.declared.geometry.Geometry.{Geometry}
use Rattle.ex_base.specs.declared.ground.Ground as ground
use Rattle.ex_base.specs.Edits.{deleted}
use Rattle.ex_base.specs.Sizes.{leaf_bytes, object_most}
use Rattle.trees.specs.Split.{most_pairs}
use Rattle.trees.specs.Shape.{Subtree, IsHalfFull}
use Rattle.trees.specs.Trees.{Units}
use Rattle.trees.specs.declared.rows.Part.{Part}
use Rattle.trees.specs.Damage.{IsSoundEnd}
use Rattle.trees.specs.Rows.{FitLeaves, row_bytes, row_shape, row_size, row_units}
use Rattle.trees.specs.Made.{Has, Holds}
use Rattle.trees.specs.Built.{AreSome}
use Rattle.tree_delete.specs.declared.cut.Cut.{Cut}

-- all trees of a cut's row, but for those that lie wholly inside the range
abbrev pub all_of : Cut → List Part
all_of cut = cut.left.items ++ (cut.run.items ++ cut.right.items)

-- how many trees stay as they are
abbrev pub sides : Cut → ℕ
sides cut = length cut.left.items + length cut.right.items

-- the bytes without those of the range
abbrev pub cut_bytes : Units → ℕ → Cut → List ℕ
cut_bytes units l cut = row_bytes units l cut.left.items ++ (deleted (row_bytes units l cut.run.items) cut.at cut.len ++ row_bytes units l cut.right.items)

-- a cut through trees of a level, whose numbers are in their limits
pub record IsCutAt (g : Geometry) (level : ℕ) (cut : Cut) : Type 0 where
  pub some : AreSome (all_of cut)
  pub fits : FitLeaves g level (all_of cut)
  pub inside : cut.at + cut.len ≤ row_size cut.run.items
  pub few : length cut.run.items ≤ 2
  pub limit : row_size (all_of cut) ≤ object_most

-- The cut takes so many bytes from a position of a row on. The trees that lie wholly inside the range are gone.
pub record IsCutOf (row : List Part) (at len : ℕ) (cut : Cut) : Type 0 where
  pub lead : List Part
  pub gone : List Part
  pub tail : List Part
  pub whole : row ≡ cut.left.items ++ ((lead ++ (gone ++ tail)) ++ cut.right.items)
  pub run : cut.run.items ≡ lead ++ tail
  pub start : row_size cut.left.items + cut.at ≡ at
  pub less : cut.len + row_size gone ≡ len
  pub inside : cut.at + cut.len ≤ row_size cut.run.items
  pub through : (gone ≡ []) ⊎ ((cut.at ≤ row_size lead) × (row_size lead ≤ cut.at + cut.len))
  pub few : length cut.run.items ≤ 2

-- the ways down to both ends of the range are sound
abbrev pub HasSoundEnds : Geometry → Units → ℕ → ℕ → Cut → Type 0
HasSoundEnds g units level least cut = IsSoundEnd g units level least cut.run.items cut.at × IsSoundEnd g units level least cut.run.items (cut.at + cut.len)

-- each tree is one that may stand below a root: a leaf that is half full, a node with at least the fan
abbrev pub AreHalves : Geometry → (l : ℕ) → List (Subtree l) → Type 0
AreHalves g l trees = AllByRecursion (IsHalfFull g.fan (leaf_bytes g) l) trees

-- each tree's children are such trees
abbrev pub HaveHalves : Geometry → (l : ℕ) → List (Subtree l) → Type 0
HaveHalves g zero leaves = Unit {0}
HaveHalves g (suc l) trees = AllByRecursion (AreHalves g l) trees

-- ---- one level lower

-- the numbers of the children of a row of nodes
pub record AreChildren (g : Geometry) (level least : ℕ) (row below : List Part) : Type 0 where
  pub sum : row_size below ≡ row_size row
  pub some : AreSome below
  pub fits : FitLeaves g (level - 1) below
  pub few : length below ≤ length row * most_pairs g.fan
  pub enough : length row * least ≤ length below

-- the children of a row of nodes
pub record IsOpened {S : Type 0} (g : ground.Ghosts S) (s : S) (l : ℕ) (row below : List Part) : Type 0 where
  pub holds : Holds g s l below
  pub bytes : row_bytes (g.unit s) l below ≡ row_bytes (g.unit s) (suc l) row
  pub units : (p : ℕ) → Has (row_units (g.unit s) l below) p → Has (row_units (g.unit s) (suc l) row) p
  pub halves : HaveHalves (g.geometry s) (suc l) (row_shape (g.unit s) (suc l) row) → AreHalves (g.geometry s) l (row_shape (g.unit s) l below)

-- the cut through the children of a row of nodes
pub record IsBelow {S : Type 0} (g : ground.Ghosts S) (s : S) (l : ℕ) (row : List Part) (at len : ℕ) (below : Cut) : Type 0 where
  pub holds : Holds g s l (all_of below)
  pub bytes : cut_bytes (g.unit s) l below ≡ deleted (row_bytes (g.unit s) (suc l) row) at len
  pub units : (p : ℕ) → Has (row_units (g.unit s) l (all_of below)) p → Has (row_units (g.unit s) (suc l) row) p
  pub halves : HaveHalves (g.geometry s) (suc l) (row_shape (g.unit s) (suc l) row) → AreHalves (g.geometry s) l (row_shape (g.unit s) l (all_of below))
