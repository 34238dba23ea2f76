use Rattle.std.proofs.Common.{◌-◌, map}
use Rattle.versions.specs.Listed.{start_rank}
use Rattle.versions.proofs.Listed.{ListedTo}
use Rattle.version_tree.specs.Lineage.{member_of}
use Rattle.version_tree.proofs.all_versions.collect.Given as goal

abbrev pub invariant-places : goal.invariant-places
invariant-places g l = ListedTo g.V.Ground (map member_of) l.initial.volume l.volume l.file_no l.after l.members.items

abbrev pub decreases-places : goal.decreases-places
decreases-places g l = 281474976710656 - start_rank l.after
