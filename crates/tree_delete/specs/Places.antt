-- Places in rows.
use Rattle.std.specs.Prelude.{◌≡◌, ℕ, ◌+◌, ◌<◌, ◌≤◌, List, length, take}
use Rattle.trees.specs.declared.rows.Part.{Part}
use Rattle.trees.specs.Rows.{row_size}

-- So many trees of a row end at a position or before it, and so many bytes of the next one lie before it.
pub record IsPlace (row : List Part) (pos index at : ℕ) : Type 0 where
  pub inside : index ≤ length row
  pub start : row_size (take index row) + at ≡ pos
  pub next : index < length row → pos < row_size (take (index + 1) row)
