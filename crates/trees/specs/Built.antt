-- What new nodes over a row leave.
use Rattle.std.specs.Prelude.{◌≡◌, ◌⊎◌, ℕ, suc, ◌≤◌, List}
use Rattle.std.specs.List.{AllByRecursion}
use Rattle.ex_base.specs.Even.{cut_by, evenly, sum_of}
use Rattle.trees.specs.Split.{nodes_for}
use Rattle.ex_base.specs.declared.ground.Ground as ground
use Rattle.trees.specs.declared.rows.Part.{Part}
use Rattle.trees.specs.Rows.{AreTrees, row_units, row_bytes, row_shape}
use Rattle.trees.specs.Made.{Has, pages_of}

-- a row of so many is cut into pieces of these lengths, each of one to most of it
pub record IsCut (most count : ℕ) (lens : List ℕ) : Type 0 where
  pub each : AllByRecursion (λ len. (1 ≤ len) × (len ≤ most)) lens
  pub sum : sum_of (λ len. len) lens ≡ count

-- so many children under as few nodes as hold them, longer nodes first
abbrev pub even_lens : ℕ → ℕ → List ℕ
even_lens fan count = evenly (nodes_for fan count) count

-- the row above holds what the row does, one level higher, in nodes of its own over pieces of these lengths
pub record Built {S : Type 0} (g : ground.Ghosts S) (s : S) (l : ℕ) (lens : List ℕ) (row above : List Part) : Type 0 where
  pub trees : AreTrees (g.geometry s) (g.unit s) (suc l) above
  pub bytes : row_bytes (g.unit s) (suc l) above ≡ row_bytes (g.unit s) l row
  pub shape : row_shape (g.unit s) (suc l) above ≡ cut_by lens (row_shape (g.unit s) l row)
  pub own : AllByRecursion (λ p. Has (pages_of above) p ⊎ Has (row_units (g.unit s) l row) p) (row_units (g.unit s) (suc l) above)
  pub all : (p : ℕ) → Has (pages_of above) p ⊎ Has (row_units (g.unit s) l row) p → Has (row_units (g.unit s) (suc l) above) p

-- each part isn't empty
abbrev pub AreSome : List Part → Type 0
AreSome row = AllByRecursion (λ part. 1 ≤ part.size) row
