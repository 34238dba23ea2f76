-- What a replace makes of a run of trees.
use Rattle.std.specs.Prelude.{◌≡◌, ℕ, ◌+◌, ◌-◌, ◌*◌, ◌<◌, ◌≤◌, List, [], ◌∷◌, length, take, drop}
use Rattle.ex_base.specs.declared.geometry.Geometry.{Geometry}
use Rattle.ex_base.specs.declared.ground.Ground as ground
use Rattle.ex_base.specs.Sizes.{leaf_bytes}
use Rattle.trees.specs.declared.rows.Part.{Part}
use Rattle.trees.specs.Rows.{row_size, FitLeaves, AreHalfFull}

-- Each tree of a run holds one of the n bytes from a position on, and the run holds all of them.
pub record IsTouched (run : List Part) (pos n : ℕ) : Type 0 where
  pub some : 1 ≤ length run
  pub first : pos < row_size (take 1 run)
  pub last : row_size (take (length run - 1) run) < pos + n
  pub all : pos + n ≤ row_size run

-- The trees from one index up to another hold the n bytes from a position on, which is `at` in them.
pub record IsSpan (row : List Part) (pos n first end at : ℕ) : Type 0 where
  pub order : first < end
  pub within : end ≤ length row
  pub start : row_size (take first row) + at ≡ pos
  pub touched : IsTouched (take (end - first) (drop first row)) at n

-- Leaves hold no more bytes than they may, and where there are two or more, each is at least half full.
pub record AreLeaves (g : Geometry) (level : ℕ) (run : List Part) : Type 0 where
  pub fit : FitLeaves g level run
  pub halves : level ≡ 0 → 2 ≤ length run → AreHalfFull (leaf_bytes g) run

-- P holds of each tree of a run and of its row of children, which stand one after the other, so many for each
abbrev pub EachRow : (Part → List Part → Type 0) → List Part → List ℕ → List Part → Type 0
EachRow P [] [] row = row ≡ []
EachRow P [] (n ∷ lens) row = ⊥
EachRow P (part ∷ run) [] row = ⊥
EachRow P (part ∷ run) (n ∷ lens) row = (n ≤ length row) × P part (take n row) × EachRow P run lens (drop n row)

-- ---- what a replace takes

-- So many pages were taken that, counted one fewer than the fan each, they and the run's trees are bounded by the leaves and by two nodes a level.
abbrev pub IsSpent : ℕ → ℕ → ℕ → ℕ → ℕ → ℕ → Type 0
IsSpent fan leaves level before after count = (fan - 1) * before + count ≤ leaves + level * (2 * (fan - 1)) + (fan - 1) * after + 2
