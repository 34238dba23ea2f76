use Rattle.std.proofs.Common.{◌-◌}
use Rattle.versions.specs.Listed.{oids_of, start_rank}
use Rattle.versions.proofs.Listed.{ListedTo}
use Rattle.versions.proofs.listing.list_file.Given as goal

abbrev pub invariant-pages : goal.invariant-pages
invariant-pages g l = ListedTo g.V.Ground oids_of l.initial.volume l.volume l.file_no l.after l.oids.items

abbrev pub decreases-pages : goal.decreases-pages
decreases-pages g l = 281474976710656 - start_rank l.after
