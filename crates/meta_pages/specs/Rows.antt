-- Lists of rows in rising order of their numbers.
use Rattle.std.specs.Prelude.{◌<◌, ◌+◌, ℕ, suc, Bool, true, false, List, [], ◌∷◌, length, nat_eq, nat_lt, Option, Some, None, is_some, not, ◌&&◌, if◌then◌else◌}
use Rattle.std.specs.List.{AllByRecursion}
use Rattle.std.specs.Map.{lookup}

-- each row has a greater number
abbrev pub IsAbove : {V : Type 0} → ℕ → List (ℕ × V) → Type 0
IsAbove page rows = AllByRecursion (λ row. page < row.0) rows

-- the numbers rise strictly
abbrev pub IsRising : {V : Type 0} → List (ℕ × V) → Type 0
IsRising [] = Unit {0}
IsRising (row ∷ rows) = IsAbove row.0 rows × IsRising rows

-- how many rows come before a number
abbrev pub place : {V : Type 0} → ℕ → List (ℕ × V) → ℕ
place page [] = 0
place page (row ∷ rows) = if nat_lt row.0 page then suc (place page rows) else 0

-- with this row in place of the one of its number, where there is one
abbrev pub with_row : {V : Type 0} → ℕ → V → List (ℕ × V) → List (ℕ × V)
with_row page v [] = (page, v) ∷ []
with_row page v (row ∷ rows) =
    if nat_lt row.0 page then row ∷ with_row page v rows
    else (if nat_eq page row.0 then (page, v) ∷ rows else (page, v) ∷ row ∷ rows)

-- without the row of a number
abbrev pub without_row : {V : Type 0} → ℕ → List (ℕ × V) → List (ℕ × V)
without_row page [] = []
without_row page (row ∷ rows) =
    if nat_lt row.0 page then row ∷ without_row page rows
    else (if nat_eq page row.0 then rows else row ∷ rows)

-- the committed images after the working ones: an image takes its page's place, and a page that was given back has none
abbrev pub kept_row : ℕ → Option (List ℕ) → List (ℕ × List ℕ) → List (ℕ × List ℕ)
kept_row page None rows = without_row page rows
kept_row page (Some image) rows = with_row page image rows

abbrev pub kept_rows : List (ℕ × List ℕ) → List (ℕ × Option (List ℕ)) → List (ℕ × List ℕ)
kept_rows committed [] = committed
kept_rows committed (row ∷ rows) = kept_row row.0 row.1 (kept_rows committed rows)

-- how many images of the rows have pages without a committed image
abbrev pub is_fresh : List (ℕ × List ℕ) → ℕ × Option (List ℕ) → Bool
is_fresh committed row = is_some row.1 && not (is_some (lookup (nat_eq row.0) committed))

abbrev pub ones : Bool → ℕ
ones true = 1
ones false = 0

abbrev pub fresh : List (ℕ × List ℕ) → List (ℕ × Option (List ℕ)) → ℕ
fresh committed [] = 0
fresh committed (row ∷ rows) = ones (is_fresh committed row) + fresh committed rows

-- how many pages have a committed or a working image
abbrev pub named : List (ℕ × List ℕ) → List (ℕ × Option (List ℕ)) → ℕ
named committed working = length committed + fresh committed working
