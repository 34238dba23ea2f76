-- How many logged pages a version more or less touches.
use Rattle.std.specs.Prelude.{◌+◌, ℕ}
use Rattle.file_bodies.specs.Touches.{body_touches}

-- the most logged pages that are touched where a version comes into the tree of its object or leaves it: those of its body, and the two records beside it
abbrev pub version_touches : ℕ
version_touches = body_touches + 2
