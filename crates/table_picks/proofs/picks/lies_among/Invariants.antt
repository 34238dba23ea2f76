use Rattle.std.proofs.Common.{◌≡◌, drop}
use Rattle.std.specs.List.{list_any}
use Rattle.table_picks.specs.Picks.{lies_at}
use Rattle.table_picks.proofs.picks.lies_among.Given as goal

abbrev pub invariant-loop-version : goal.invariant-loop-version
invariant-loop-version l = list_any (lies_at l.place) (drop l.version-index l.versions) ≡ list_any (lies_at l.place) l.versions
