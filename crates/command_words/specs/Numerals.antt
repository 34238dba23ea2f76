-- Single words of a command line.
use Rattle.std.specs.Prelude.{◌≡◌, ◌≤◌, ◌<◌, ◌^◌, ◌==◌, ℕ, Bool, not, false, List, [], ◌∷◌, length}
use Rattle.std.specs.Str.Parse.{IsNumeral, digits_value}

-- The word is 1 to 20 decimal digits that write this number.
pub record Writes (word : List ℕ) (n : ℕ) : Type 0 where
  pub digits : IsNumeral 10 word
  pub short : length word ≤ 20
  pub value : digits_value 10 word ≡ n

-- The word writes a number below 2 ^ 64.
abbrev pub IsNumber : List ℕ → Type 0
IsNumber word = (n : ℕ) × (n < 2 ^ 64) × Writes word n

-- The word may name a volume: it isn't empty and doesn't begin with `-`.
abbrev pub is_volume : List ℕ → Bool
is_volume [] = false
is_volume (b ∷ bs) = not (b == 45)
