use Rattle.std.proofs.Common.{◌≡◌, length}
use Rattle.version_tree.specs.Lineage.{first_from}
use Rattle.version_tree.proofs.lineage.first_from.Given as goal

abbrev pub invariant-steps : goal.invariant-steps
invariant-steps l = first_from l.steps l.by_place l.member ≡ first_from (length l.by_place) l.by_place l.fn.from

abbrev pub decreases-steps : goal.decreases-steps
decreases-steps l = l.steps
