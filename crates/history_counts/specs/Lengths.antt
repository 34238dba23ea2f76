-- How long leaves are, and how long they are named.
use Rattle.std.specs.Prelude.{ℕ, zero, suc, min, max, List, [], ◌∷◌, replicate, slice_index, slice_set}

-- of each leaf its length and its longest naming, 0 where there is none yet; and the bytes of a leaf that is full
pub record Lengths : Type 0 where
  pub lengths : List ℕ
  pub longest : List ℕ
  pub most : ℕ

abbrev pub no_lengths : ℕ → ℕ → Lengths
no_lengths most leaves = record { lengths = replicate leaves 0; longest = replicate leaves 0; most = most }

-- A naming of a leaf by its number is noted, of one above the most only that it is: no leaf is as long.
abbrev pub raised : ℕ → List ℕ → ℕ → ℕ → List ℕ
raised most longest zero n = longest
raised most longest (suc i) n = slice_set longest i (max (slice_index longest i) (min n (suc most)))

-- all namings of a list, one after the other
abbrev pub raised_by : ℕ → List ℕ → List (ℕ × ℕ) → List ℕ
raised_by most longest [] = longest
raised_by most longest (naming ∷ namings) = raised_by most (raised most longest naming.0 naming.1) namings
