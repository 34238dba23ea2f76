-- The edits of a byte list. They hold of any list; where a range is named, it lies inside the list.
use Rattle.std.specs.Prelude.{ℕ, ◌+◌, List, ◌++◌, take, drop}
use Rattle.ex_base.specs.Bytes.{written}

-- more put in before the byte at p
abbrev pub inserted : List ℕ → ℕ → List ℕ → List ℕ
inserted bytes p more = take p bytes ++ more ++ drop p bytes

-- without the n bytes from p on
abbrev pub deleted : List ℕ → ℕ → ℕ → List ℕ
deleted bytes p n = take p bytes ++ drop (p + n) bytes

-- with others over the bytes from p on, as many as the others are
abbrev pub replaced : List ℕ → ℕ → List ℕ → List ℕ
replaced bytes p others = written bytes p others

-- with more at the end
abbrev pub appended : List ℕ → List ℕ → List ℕ
appended bytes more = bytes ++ more
