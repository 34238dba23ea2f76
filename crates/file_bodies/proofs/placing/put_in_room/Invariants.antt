use Rattle.std.proofs.Common.{◌+◌, ◌-◌, length}
use Rattle.file_bodies.proofs.Searching.{SearchedTo}
use Rattle.file_bodies.proofs.placing.put_in_room.Given as goal

abbrev pub invariant-searched : goal.invariant-searched
invariant-searched g l = SearchedTo g.P.Ground l.initial.pages l.pages l.index (length l.body) l.from l.key

abbrev pub decreases-searched : goal.decreases-searched
decreases-searched g l = 257 + (g.P.Ground.geometry l.pages).pages - l.key
