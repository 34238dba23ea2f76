-- The commits whose reply to a client was written whole.
use Rattle.std.specs.Prelude.{ℕ, List, [], ◌∷◌, bytes_eq, decimal, if◌then◌else◌, Option, None}
use Rattle.std.specs.List.{slice_split}
use Rattle.table_model.specs.Words.{number_of}
use Rattle.runs.specs.Acknowledged.{commit_of_words, is_space}

-- the number of a line `K ok commit N`, with a number K
abbrev pub turn_commit_of_words : List (List ℕ) → Option ℕ
turn_commit_of_words [] = None
turn_commit_of_words (client ∷ words) = if bytes_eq client (decimal (number_of client)) then commit_of_words words else None

abbrev pub turn_commit_of : List ℕ → Option ℕ
turn_commit_of line = turn_commit_of_words (slice_split is_space line)
