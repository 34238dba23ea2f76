use Rattle.std.proofs.Common.{Some, take}
use Rattle.session_core.specs.Turning.{NonePaged}
use Rattle.session_core.proofs.session.turning.place_of.Given as goal

abbrev pub invariant-loop-at : goal.invariant-loop-at
invariant-loop-at l = NonePaged (take l.at l.roots) (Some l.root)
