use Rattle.std.proofs.Common.{◌+◌, ◌*◌}
use Rattle.version_delete.proofs.Releasing.{SoFar}
use Rattle.version_delete.proofs.owners.+giving.Given as goal

abbrev pub decreases-give_up : goal.decreases-give_up
decreases-give_up g l = 2 * l.level

abbrev pub decreases-release : goal.decreases-release
decreases-release g l = 2 * l.level + 1

-- the trees before this one were released
abbrev pub invariant-give_up-loop-child : goal.invariant-give_up-loop-child
invariant-give_up-loop-child g l = SoFar g.B.Ground l.initial.blocks l.blocks l.level l.child-items l.child-index l.initial.steps l.steps
