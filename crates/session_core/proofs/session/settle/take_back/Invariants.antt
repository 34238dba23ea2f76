use Rattle.std.proofs.Common.{take}
use Rattle.session_core.specs.Sessions.{TakenBack}
use Rattle.session_core.proofs.session.settle.take_back.Given as goal

abbrev pub invariant-loop-index : goal.invariant-loop-index
invariant-loop-index l = TakenBack (take l.index l.meta.working) l.kept l.initial.pages l.pages l.initial.units l.units
