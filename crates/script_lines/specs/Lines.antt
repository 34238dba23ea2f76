-- The lines of a script.
use Rattle.std.specs.Prelude.{ℕ, List, [], ◌∷◌, length, map, take, Bool, ◌==◌, nat_lt, if◌then◌else◌}
use Rattle.std.specs.List.{slice_split}

abbrev pub line_feed : ℕ → Bool
line_feed b = b == 10

-- the longest line, without its line feed
abbrev pub line_most : ℕ
line_most = 1048576

-- a line as it is read: its bytes, or nothing but that it is too long
pub data Line : Type 0 where
  Short : List ℕ → Line
  Long : Line

-- without one carriage return at its end
abbrev pub without_return : List ℕ → List ℕ
without_return [] = []
without_return (b ∷ []) = if b == 13 then [] else b ∷ []
without_return (b ∷ c ∷ bs) = b ∷ without_return (c ∷ bs)

-- what stood before a line feed; its length counts before the carriage return is dropped
abbrev pub ended : List ℕ → Line
ended bytes = if nat_lt line_most (length bytes) then Long else Short (without_return bytes)

-- what stands after the last line feed is a line where it isn't empty, and keeps its carriage return
abbrev pub unended : List ℕ → List Line
unended [] = []
unended (b ∷ bs) = (if nat_lt line_most (length (b ∷ bs)) then Long else Short (b ∷ bs)) ∷ []

abbrev pub lines_of_parts : List (List ℕ) → List Line
lines_of_parts [] = []
lines_of_parts (part ∷ []) = unended part
lines_of_parts (part ∷ next ∷ parts) = ended part ∷ lines_of_parts (next ∷ parts)

-- the lines of a script, in order
abbrev pub lines_of : List ℕ → List Line
lines_of script = lines_of_parts (slice_split line_feed script)

abbrev pub whole_of_parts : List (List ℕ) → List (List ℕ)
whole_of_parts [] = []
whole_of_parts (part ∷ []) = []
whole_of_parts (part ∷ next ∷ parts) = part ∷ whole_of_parts (next ∷ parts)

-- what stands before each line feed
abbrev pub whole_lines : List ℕ → List (List ℕ)
whole_lines bytes = whole_of_parts (slice_split line_feed bytes)

-- the lines that a line feed ends among the first `most` bytes of a script
abbrev pub lines_within : ℕ → List ℕ → List Line
lines_within most script = map ended (whole_lines (take most script))
