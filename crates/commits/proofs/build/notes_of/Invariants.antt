use Rattle.std.proofs.Common.{◌≡◌, take}
use Rattle.commits.proofs.build.notes_of.Given as goal

abbrev pub invariant-loop-note : goal.invariant-loop-note
invariant-loop-note l = l.items ≡ take l.note-index l.notes
