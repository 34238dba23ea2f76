-- Which logged pages a session has, by page number.
use Rattle.std.specs.Prelude.{ℕ, Bool, false, List, slice_index_or}

-- whether the working state has each page
abbrev pub LoggedSet : Type 0
LoggedSet = List Bool

abbrev pub is_held : LoggedSet → ℕ → Bool
is_held pages page = slice_index_or pages page false
