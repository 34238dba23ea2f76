-- What was moved, and where to.
use Rattle.std.specs.Prelude.{nat_eq}
use Rattle.std.specs.HashMap.{get}
use Rattle.compact.specs.Moved.{Copies}
use Rattle.compact.specs.declared.moves.Moves.{Moves}

-- the copies of units, by the numbers that name them
abbrev pub copies_of : Moves → Copies
copies_of moves = get nat_eq moves.copies
