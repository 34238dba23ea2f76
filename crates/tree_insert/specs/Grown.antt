-- How many parts a row that grew has, and what was paid for them.
use Rattle.std.specs.Prelude.{◌≡◌, ℕ, ◌+◌, ◌*◌, ◌≤◌, List, length}
use Rattle.trees.specs.declared.rows.Part.{Part}
use Rattle.trees.specs.Rows.{row_size}
use Rattle.trees.specs.Built.{AreSome}

-- a row that took in n bytes, and has trees that aren't empty
pub record HasGrown (n : ℕ) (row made : List Part) : Type 0 where
  pub sum : row_size made ≡ row_size row + n
  pub sizes : AreSome made
  pub some : 1 ≤ length made

-- So many parts came in the place of one tree at a level, and no free page came back. The pages that were taken for them, each counted as the fan, and
-- the parts themselves are bounded by the new leaves and two fans a level.
pub record IsPaid (fan leaves level before after old new : ℕ) : Type 0 where
  pub parts : ℕ
  pub some : 1 ≤ parts
  pub count : new + 1 ≤ old + parts
  pub fewer : after ≤ before
  pub paid : fan * before + parts ≤ leaves + level * (2 * fan) + fan * after
