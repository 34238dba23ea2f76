-- How many logged pages a body more or less touches.
use Rattle.std.specs.Prelude.{◌+◌, ℕ}
use Rattle.file_index.specs.Index.{index_level_most}
use Rattle.file_index.specs.Touches.{index_touches}

-- the most logged pages that are touched where a body comes into a file or leaves it: its page, the pages of the index, and the catalog
abbrev pub body_touches : ℕ
body_touches = index_touches + 2

-- the most pages that a body takes: its own, one on each level of the index, and a new root
abbrev pub body_pages : ℕ
body_pages = index_level_most + 2
