use Rattle.std.proofs.Common.{◌≡◌, ◌+◌, length, take}
use Rattle.meta_pages.specs.Entries.{imaged}
use Rattle.meta_pages.proofs.rows.image_row.Given as goal

abbrev pub invariant-loop-row : goal.invariant-loop-row
invariant-loop-row l = l.ahead + length (imaged (take l.row-index l.rows)) ≡ l.index
