-- Ranges of the bytes of trees side by side.
use Rattle.std.specs.Prelude.{◌≡◌, ℕ, ◌+◌, ◌≤◌, List, take, drop}
use Rattle.trees.specs.declared.rows.Part.{Part}
use Rattle.trees.specs.Rows.{row_size}

-- These trees stand side by side in a row and have so many of its bytes from a position on, which begin at `inside` in them.
pub record IsSpan (row : List Part) (pos len : ℕ) (trees : List Part) (inside : ℕ) : Type 0 where
  pub first : ℕ
  pub count : ℕ
  pub parts : trees ≡ take count (drop first row)
  pub place : pos ≡ row_size (take first row) + inside
  pub enough : inside + len ≤ row_size trees
