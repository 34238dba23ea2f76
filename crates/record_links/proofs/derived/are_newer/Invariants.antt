use Rattle.std.proofs.Common.{◌<◌, ℕ}
use Rattle.record_links.specs.Found.{HasNewer}
use Rattle.record_links.proofs.derived.are_newer.Given as goal

abbrev pub invariant-walk : goal.invariant-walk
invariant-walk l = (k : ℕ) → k < l.at → HasNewer l.records k
