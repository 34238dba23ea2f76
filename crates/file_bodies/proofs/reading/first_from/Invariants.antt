use Rattle.std.proofs.Common.{◌+◌, ◌-◌}
use Rattle.file_bodies.proofs.Following.{LookedTo}
use Rattle.file_bodies.proofs.reading.first_from.Given as goal

abbrev pub invariant-looked : goal.invariant-looked
invariant-looked g l = LookedTo g.P.Ground l.initial.pages l.pages l.index l.fn.key l.fn.slot l.low l.first

abbrev pub decreases-looked : goal.decreases-looked
decreases-looked g l = 257 + (g.P.Ground.geometry l.pages).pages - l.low
