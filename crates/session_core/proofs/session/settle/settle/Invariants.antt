use Rattle.std.proofs.Common.{take}
use Rattle.session_core.specs.Sessions.{Settled}
use Rattle.session_core.proofs.session.settle.settle.Given as goal

abbrev pub invariant-loop-index : goal.invariant-loop-index
invariant-loop-index l = Settled (take l.index l.meta.working) l.initial.kept l.kept l.initial.units l.units
