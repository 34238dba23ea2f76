-- The commits whose reply was written whole.
use Rattle.std.specs.Prelude.{◌≡◌, ◌⊎◌, ◌++◌, ℕ, List, [], ◌∷◌, ◌&&◌, ◌==◌, bytes_eq, codes, decimal, filter_map, Bool, if◌then◌else◌, max, Option, Some, None}
use Rattle.std.specs.List.{slice_split}
use Rattle.table_model.specs.Words.{number_of}
use Rattle.script_lines.specs.Lines.{whole_lines}

-- the number of a line `ok commit N`
abbrev pub commit_of_words : List (List ℕ) → Option ℕ
commit_of_words (ok ∷ commit ∷ number ∷ []) =
    if bytes_eq ok (codes "ok") && bytes_eq commit (codes "commit") && bytes_eq number (decimal (number_of number)) then Some (number_of number) else None
commit_of_words _ = None

abbrev pub is_space : ℕ → Bool
is_space b = b == 32

abbrev pub commit_of : List ℕ → Option ℕ
commit_of line = commit_of_words (slice_split is_space line)

-- the commits whose line stands in what was sent, with its line feed, where their numbers are read of lines so
abbrev pub commits_by : (List ℕ → Option ℕ) → List ℕ → List ℕ
commits_by read sent = filter_map read (whole_lines sent)

abbrev pub greatest_or : ℕ → List ℕ → ℕ
greatest_or n [] = n
greatest_or n (c ∷ []) = c
greatest_or n (c ∷ d ∷ cs) = max c (greatest_or n (d ∷ cs))

-- the greatest of them, or the number that the run began with
abbrev pub acked_by : (List ℕ → Option ℕ) → ℕ → List ℕ → ℕ
acked_by read opening sent = greatest_or opening (commits_by read sent)

-- nothing, or whole lines
abbrev pub EndsLine : List ℕ → Type 0
EndsLine text = (text ≡ []) ⊎ ((front : List ℕ) × (text ≡ front ++ 10 ∷ []))
