use Rattle.std.proofs.Common.{◌≡◌, ◌++◌, drop}
use Rattle.file_walk.specs.Objects.{found_by}
use Rattle.file_walk.proofs.objects.add_labelled.Given as goal

-- the records so far were added
abbrev pub invariant-loop-at : goal.invariant-loop-at
invariant-loop-at l = l.fn.found.items ++ found_by l.first l.records l.labels ≡ l.found.items ++ found_by l.first (drop l.at l.records) (drop l.at l.labels)
