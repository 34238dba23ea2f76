-- Which of the lowest numbers the entries have, one mark for each number from 1 on.
use Rattle.std.specs.Prelude.{◌≡◌, ℕ, ◌+◌, ◌-◌, ◌<◌, ◌≤◌, Bool, true, false, not, List, length, slice_index_or, count_by}
use Rattle.object_files.specs.Reads.{number_in, entry_at}

-- a number that no mark stands for
abbrev pub IsLarge : ℕ → Type 0
IsLarge number = 1 ≤ number → 171 < number

-- the number has a mark
pub record HasMark (marks : List Bool) (number : ℕ) : Type 0 where
  pub some : 1 ≤ number
  pub small : number ≤ 171
  pub there : slice_index_or marks (number - 1) false ≡ true

-- The marks of the numbers that the first n entries have: the mark at k is that of the number k + 1.
pub record MarksNumbers (page : List ℕ) (n : ℕ) (marks : List Bool) : Type 0 where
  pub many : length marks ≡ 171
  pub marked : (i : ℕ) → i < n → 1 ≤ number_in page (entry_at i) → number_in page (entry_at i) ≤ 171 → slice_index_or marks (number_in page (entry_at i) - 1) false ≡ true
  pub only : (k : ℕ) → slice_index_or marks k false ≡ true → (i : ℕ) × (i < n) × (number_in page (entry_at i) ≡ k + 1)
  pub few : 171 ≤ count_by not marks + n
