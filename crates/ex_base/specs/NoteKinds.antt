-- The kinds of notes of updates.
use Rattle.std.specs.Prelude.{ℕ}
use Rattle.ex_base.specs.declared.notes.NoteKind.{NoteKind}
use Rattle.ex_base.specs.declared.notes.NoteKind.TheVariants as note_kind

-- the number that stands for a kind
abbrev pub kind_number : NoteKind → ℕ
kind_number note_kind.FileMade = 1
kind_number note_kind.FileRemoved = 2
kind_number note_kind.ObjectMade = 3
kind_number note_kind.ObjectRemoved = 4
kind_number note_kind.Inserted = 5
kind_number note_kind.Appended = 6
kind_number note_kind.Replaced = 7
kind_number note_kind.Deleted = 8
kind_number note_kind.Frozen = 9
kind_number note_kind.Dropped = 10
kind_number note_kind.Derived = 11
