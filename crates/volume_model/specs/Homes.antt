-- Where units stand outside of the log.
use Rattle.std.specs.Prelude.{ℕ, List}
use Rattle.ex_base.specs.declared.geometry.Geometry.{Geometry}
use Rattle.ex_base.specs.Area.{page_at}
use Rattle.trees.specs.Trees.{Units, units_from}

-- the bytes of each unit at its home
abbrev pub home : Geometry → List ℕ → Units
home g disk = units_from g (page_at g disk) disk
