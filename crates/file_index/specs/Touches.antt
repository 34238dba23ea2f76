-- How many logged pages a call on the pages of files touches.
use Rattle.std.specs.Prelude.{◌≤◌, ◌+◌, ◌-◌, ◌*◌, ℕ}
use Rattle.ex_base.specs.declared.ground.Ground as ground
use Rattle.file_index.specs.Index.{index_level_most}

-- The open transaction has touched at most so many logged pages more.
abbrev pub TouchesAtMost : {S : Type 0} → ground.Ghosts S → S → S → ℕ → Type 0
TouchesAtMost g old new most = g.touched new ≤ g.touched old + most

-- the most index pages that are touched below an index page of a level where a page of the file comes or goes: on each level one and the one beside it
abbrev pub touches_below : ℕ → ℕ
touches_below level = 2 * (level - 1)

-- the most index pages that are touched where a page comes into an index or leaves it: on each of its five levels two, and a new root
abbrev pub index_touches : ℕ
index_touches = touches_below index_level_most + 3
