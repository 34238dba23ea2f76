-- The front of a line of a schedule: whose the line is.
use Rattle.std.specs.Prelude.{ℕ, List}
use Rattle.clients.specs.Turns.{IsOf, IsQuiet}
use Rattle.clients.specs.declared.turns.Front.{Front}
use Rattle.clients.specs.declared.turns.Front.TheVariants as front

-- Its client stands before the rest, or it says nothing without a rest, or its client can't be read.
abbrev pub IsFront : List ℕ → Front → Type 0
IsFront line front.Quiet = IsQuiet line
IsFront line front.Unread = (IsQuiet line → ⊥) × ((j : ℕ) (rest : List ℕ) → IsOf j line rest → ⊥)
IsFront line (front.Of client rest) = IsOf client line rest.now
