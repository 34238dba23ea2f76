use Rattle.std.proofs.Common.{◌≡◌, drop}
use Rattle.std.specs.Prelude.{flat_map}
use Rattle.std.specs.List.{list_any}
use Rattle.table_model.specs.Tables.{versions_in}
use Rattle.table_picks.specs.Picks.{lies_at}
use Rattle.table_picks.proofs.picks.lies_in_files.Given as goal

abbrev pub invariant-loop-file : goal.invariant-loop-file
invariant-loop-file l = list_any (lies_at l.place) (flat_map versions_in (drop l.file-index l.files)) ≡ list_any (lies_at l.place) (flat_map versions_in l.files)
