-- Places in a row of trees.
use Rattle.std.specs.Prelude.{◌≡◌, ◌≢◌, ℕ, ◌+◌, ◌<◌, ◌≤◌, Bool, true, false, List, [], ◌∷◌, length, take, slice_index, Option, Some, None}
use Rattle.trees.specs.declared.rows.Part.{Part}
use Rattle.trees.specs.Rows.{row_size}
use Rattle.trees.specs.Made.{sizes_of}

-- the bytes of the tree at an index
abbrev pub size_at : List Part → ℕ → ℕ
size_at row index = slice_index (sizes_of row) index

-- The first tree that ends at a position or behind it stands at the index, with the position inside it.
pub record IsAt (row : List Part) (pos index at : ℕ) : Type 0 where
  pub inside : index < length row
  pub start : row_size (take index row) + at ≡ pos
  pub fits : at ≤ size_at row index
  pub first : index ≢ 0 → 1 ≤ at

-- the last and the first number of a list, if it has one
abbrev pub last_of : List ℕ → Option ℕ
last_of [] = None
last_of (x ∷ []) = Some x
last_of (x ∷ y ∷ xs) = last_of (y ∷ xs)

abbrev pub first_of : List ℕ → Option ℕ
first_of [] = None
first_of (x ∷ xs) = Some x

-- 1 where a flag is set
abbrev pub flag : Bool → ℕ
flag true = 1
flag false = 0
