-- What a page shows of itself, and what the page that names it says of it: the kind, the level and the total of each of them.
use Rattle.std.specs.Prelude.{ℕ}
use Rattle.ex_base.specs.declared.faults.Seen.{Seen}

-- a page that isn't read, or that isn't what it should be
abbrev pub nothing_seen : Seen
nothing_seen = record { kind = 0; level = 0; total = 0 }

-- the catalog
abbrev pub catalog_seen : Seen
catalog_seen = record { kind = 1; level = 0; total = 0 }

-- a node of a level that spells so many bytes
abbrev pub node_seen : ℕ → ℕ → Seen
node_seen level total = record { kind = 2; level = level; total = total }

-- a page of the file with this number
abbrev pub file_page_seen : ℕ → Seen
file_page_seen file_no = record { kind = 3; level = 0; total = file_no }

-- a record in this slot
abbrev pub record_seen : ℕ → Seen
record_seen slot = record { kind = 4; level = 0; total = slot }

-- an index page of a level, with the least key that its parent gives, or 0 for a root
abbrev pub index_seen : ℕ → ℕ → Seen
index_seen level key = record { kind = 6; level = level; total = key }

-- the header of a large record, with the height and the bytes of its tree
abbrev pub header_seen : ℕ → ℕ → Seen
header_seen height size = record { kind = 7; level = height; total = size }

-- a leaf
abbrev pub leaf_seen : Seen
leaf_seen = record { kind = 8; level = 0; total = 0 }
