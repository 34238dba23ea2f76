use Rattle.std.proofs.Common.{take}
use Rattle.session_core.specs.Sessions.{Swept}
use Rattle.session_core.proofs.session.settle.sweep.Given as goal

abbrev pub invariant-loop-index : goal.invariant-loop-index
invariant-loop-index l = Swept (take l.index l.meta.working) l.kept l.initial.units l.units
