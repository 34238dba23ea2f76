-- The versions of the file at hand, by their numbers.
use Rattle.std.specs.Prelude.{ℕ, List, [], ◌∷◌, ◌++◌, Option, Some, None}

-- the numbers of the versions so far, and those of the versions that they are derived from
pub record Numbers : Type 0 where
  pub numbers : List ℕ
  pub olders : List ℕ

abbrev pub no_numbers : Numbers
no_numbers = record { numbers = []; olders = [] }

abbrev pub one_if : Option ℕ → List ℕ
one_if None = []
one_if (Some number) = number ∷ []

abbrev pub numbered_more : Numbers → ℕ → Option ℕ → Numbers
numbered_more were number older = record { numbers = were.numbers ++ number ∷ []; olders = were.olders ++ one_if older }
