use Rattle.std.proofs.Common.{◌≡◌, take}
use Rattle.std.specs.List.{AllByRecursion}
use Rattle.restart.proofs.Adopting.{HasRoot}
use Rattle.restart.specs.Content.{roots_found}
use Rattle.restart.proofs.content.roots_of.Given as goal

abbrev pub invariant-loop-record : goal.invariant-loop-record
invariant-loop-record l = (l.roots.items ≡ roots_found (take l.record-index l.records)) × AllByRecursion HasRoot l.roots.items
