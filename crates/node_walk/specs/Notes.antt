-- How the notes of a tree's units are kept: those of nodes one by one, and of leaves a bit each.
use Rattle.std.specs.Prelude.{ℕ, ◌/◌, ◌%◌, Bool, Option, Some, unwrap_or, eqb, nat_eq, if◌then◌else◌}
use Rattle.std.specs.Int.{bit_at}
use Rattle.std.specs.HashMap.{get}
use Rattle.node_walk.specs.declared.nodes.Met.{Met}
use Rattle.node_walk.specs.declared.notes.TreeNotes.{TreeNotes}

-- the note of a leaf
abbrev pub leaf_note : Met
leaf_note = record { level = 0; total = 0; pairs = 0 }

-- the marks of the 64 pages of a group: those at hand, or those in the map
abbrev pub marks_of : TreeNotes → ℕ → ℕ
marks_of notes group = if nat_eq group notes.group then notes.marks else unwrap_or (get nat_eq notes.leaves group) 0

-- whether a page has its mark
abbrev pub is_marked : TreeNotes → ℕ → Bool
is_marked notes page = eqb (bit_at (marks_of notes (page / 64)) (page % 64)) 1

-- the note of a unit: that of a leaf where its page has a mark, else one of a node
abbrev pub notes_in : TreeNotes → ℕ → Option Met
notes_in notes page = if is_marked notes page then Some leaf_note else get nat_eq notes.nodes page
