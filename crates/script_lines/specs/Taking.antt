-- The next line of a script of which so many bytes count.
use Rattle.std.specs.Prelude.{◌≡◌, ◌≢◌, ◌<◌, ◌+◌, ℕ, Option, Some, None, List, [], ◌∷◌, ◌++◌, length}
use Rattle.script_lines.specs.Lines.{Line, lines_of, lines_within}

-- The script is cut short: it has more bytes than count, and no line feed among those that do.
abbrev pub IsCut : ℕ → List ℕ → Type 0
IsCut most script = (most < length script) × (lines_within most script ≡ [])

-- The first line of a script is taken. `most` bytes of the script count, and `still` bytes of what is left.
pub record TakesLine (most : ℕ) (script : List ℕ) (line : Line) (still : ℕ) (after : List ℕ) : Type 0 where
  -- the line as it stood in the script, with its line feed
  pub passed : List ℕ
  pub bytes : script ≡ passed ++ after
  pub count : length passed + still ≡ most
  pub some : 0 < length passed
  -- It is the first line, and the others are those of what is left.
  pub first : lines_of script ≡ line ∷ lines_of after
  -- A line behind which something stands has its line feed among the bytes that count.
  pub within : after ≢ [] → lines_within most script ≡ line ∷ lines_within still after

-- The next line is this one; there is none exactly where nothing is left.
abbrev pub Takes : ℕ → List ℕ → Option Line → ℕ → List ℕ → Type 0
Takes most script (Some line) still after = TakesLine most script line still after
Takes most script None still after = (script ≡ []) × (after ≡ []) × (still ≡ most)
