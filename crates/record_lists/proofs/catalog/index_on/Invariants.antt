use Rattle.std.proofs.Common.{◌≡◌, drop}
use Rattle.file_bodies.specs.Files.{index_in}
use Rattle.record_lists.proofs.catalog.index_on.Given as goal

abbrev pub invariant-loop-at : goal.invariant-loop-at
invariant-loop-at l = index_in l.file_no l.view.entries ≡ index_in l.file_no (drop l.at l.view.entries)
