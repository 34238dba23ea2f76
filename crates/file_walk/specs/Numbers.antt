-- Which unique numbers records may have.
use Rattle.std.specs.Prelude.{ℕ, ◌≤◌, ◌<◌, ◌+◌, List, [], ◌∷◌, map}
use Rattle.std.specs.List.{AllByRecursion}
use Rattle.ex_base.specs.Order.{AllDiffer}
use Rattle.file_walk.specs.declared.Found.{Found}

-- The numbers differ, are at least 1 and below the next one.
pub record AreGoodNumbers (next : ℕ) (numbers : List ℕ) : Type 0 where
  pub differ : AllDiffer numbers
  pub some : AllByRecursion (λ (n : ℕ). 1 ≤ n) numbers
  pub below : AllByRecursion (λ (n : ℕ). n < next) numbers

-- numbers rise strictly, from a least one on, below the next one
abbrev pub IsGoodRun : ℕ → ℕ → List ℕ → Type 0
IsGoodRun next least [] = Unit {0}
IsGoodRun next least (n ∷ ns) = (least ≤ n) × (n < next) × IsGoodRun next (n + 1) ns

-- the unique numbers of records
abbrev pub uniques : List Found → List ℕ
uniques records = map (λ (found : Found). found.unique) records
