-- Trees of one level side by side.
use Rattle.std.specs.Prelude.{◌≡◌, ℕ, ◌+◌, ◌-◌, ◌/◌, ◌≤◌, List, [], ◌∷◌, length, map}
use Rattle.std.specs.List.{flat_map, AllByRecursion}
use Rattle.ex_base.specs.declared.geometry.Geometry.{Geometry}
use Rattle.ex_base.specs.Even.{sum_of}
use Rattle.ex_base.specs.Sizes.{leaf_bytes}
use Rattle.trees.specs.declared.Pair.{Pair}
use Rattle.trees.specs.Node.{PairsOf, pairs_on, total_of}
use Rattle.trees.specs.Split.{most_pairs}
use Rattle.trees.specs.Shape.{Subtree}
use Rattle.trees.specs.Trees.{Units, IsNamed, HasSize, bytes_on, shape_on, units_on}
use Rattle.trees.specs.declared.rows.Part.{Part}

-- the children of a node, each with its own number of bytes
abbrev pub parts_of : ℕ → List Pair → List Part
parts_of before [] = []
parts_of before (pair ∷ pairs) = record { size = pair.count - before; page = pair.page } ∷ parts_of pair.count pairs

-- the pairs of a node over these trees
abbrev pub pairs_of : ℕ → List Part → List Pair
pairs_of before [] = []
pairs_of before (part ∷ parts) = record { count = before + part.size; page = part.page } ∷ pairs_of (before + part.size) parts

abbrev pub size_of_part : Part → ℕ
size_of_part part = part.size

abbrev pub row_size : List Part → ℕ
row_size row = sum_of size_of_part row

abbrev pub row_bytes : Units → ℕ → List Part → List ℕ
row_bytes units l row = flat_map (λ part. bytes_on units l part.page.0 part.size) row

abbrev pub row_shape : Units → (l : ℕ) → List Part → List (Subtree l)
row_shape units l row = map (λ part. shape_on units l part.page.0 part.size) row

abbrev pub row_units : Units → ℕ → List Part → List ℕ
row_units units l row = flat_map (λ part. units_on units l part.page.0) row

-- each part is a tree of this level and size
abbrev pub AreTrees : Geometry → Units → ℕ → List Part → Type 0
AreTrees g units l row = AllByRecursion (λ part. IsNamed g units l part.page.0 × HasSize g units l part.page.0 part.size) row

-- at level 0 no part has more bytes than a leaf holds
abbrev pub FitLeaves : Geometry → ℕ → List Part → Type 0
FitLeaves g level row = level ≡ 0 → AllByRecursion (λ part. part.size ≤ leaf_bytes g) row

-- ---- what a node gives

-- where a leaf that isn't the root is at least half full
abbrev pub AreHalfFull : ℕ → List Part → Type 0
AreHalfFull full row = AllByRecursion (λ part. (full / 2 ≤ part.size) × (part.size ≤ full)) row

-- the children of a node are enough, and leaves below it are at least half full
pub record IsFilled (g : Geometry) (level least : ℕ) (row : List Part) : Type 0 where
  pub enough : least ≤ length row
  pub halves : level ≡ 1 → AreHalfFull (leaf_bytes g) row

-- the numbers of a node's children, whatever they are
pub record IsCounted (g : Geometry) (level total least : ℕ) (row : List Part) : Type 0 where
  pub sum : row_size row ≡ total
  pub few : length row ≤ most_pairs g.fan
  pub some : AllByRecursion (λ part. 1 ≤ part.size) row
  pub filled : IsFilled g level least row

-- the page is a node of this level and total, over these trees
pub record IsRowOn (g : Geometry) (page : List ℕ) (level total : ℕ) (row : List Part) : Type 0 where
  pub fits : PairsOf g.fan page level (pairs_on page)
  pub sum : total_of (pairs_on page) ≡ total
  pub parts : row ≡ parts_of 0 (pairs_on page)
