-- The words of a line.
use Rattle.std.specs.Prelude.{ℕ, List, length, filter, Bool, ◌||◌, ◌==◌, nat_lt}
use Rattle.std.specs.List.{slice_split}

-- the bytes that separate words: space and tab
abbrev pub is_blank : ℕ → Bool
is_blank b = (b == 32) || (b == 9)

abbrev pub is_nonempty : List ℕ → Bool
is_nonempty word = nat_lt 0 (length word)

-- the words of a line, cut at blanks
abbrev pub words_of : List ℕ → List (List ℕ)
words_of line = filter is_nonempty (slice_split is_blank line)
