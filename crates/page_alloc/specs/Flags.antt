-- The units of one area by their place in it: which are used, and how many references each has.
use Rattle.std.specs.Prelude.{◌≡◌, ℕ, ◌<◌, Bool, true, false, not, List, length, slice_index_or, count_by}

pub record UnitFlags : Type 0 where
  pub used : List Bool
  pub refs : List ℕ

-- each unit before this place is used; there is none past the end
abbrev pub AllUsedBelow : List Bool → ℕ → Type 0
AllUsedBelow used n = (k : ℕ) → k < n → slice_index_or used k true ≡ true

-- how many units are free
abbrev pub count_free : List Bool → ℕ
count_free used = count_by not used

-- the first free unit
pub record IsFirstFree (used : List Bool) (at : ℕ) : Type 0 where
  pub inside : at < length used
  pub free : slice_index_or used at true ≡ false
  pub others : AllUsedBelow used at
