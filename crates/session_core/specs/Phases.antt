-- What a session is in: whether a transaction is open, and whether a step met a fault.
use Rattle.std.specs.Prelude.{Bool, true, false}
use Rattle.session_core.specs.declared.session.phase.Phase.{Phase}
use Rattle.session_core.specs.declared.session.phase.Phase.TheVariants as phase

abbrev pub is_open : Phase → Bool
is_open phase.Idle = false
is_open phase.Open = true
is_open phase.Down = false

abbrev pub is_down : Phase → Bool
is_down phase.Idle = false
is_down phase.Open = false
is_down phase.Down = true
