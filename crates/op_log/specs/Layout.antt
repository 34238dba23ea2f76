-- The numbers of the log's format.
use Rattle.std.specs.Prelude.{ℕ}

-- the gate of a record that counts
abbrev pub open_gate : ℕ
open_gate = 1

-- the gate that is written where no record counts
abbrev pub closed_gate : ℕ
closed_gate = 0

-- the bytes of a record's head, its gate not included
abbrev pub head_len : ℕ
head_len = 19

-- the bytes of a note
abbrev pub note_len : ℕ
note_len = 31

-- the bytes of a page number
abbrev pub number_len : ℕ
number_len = 4
