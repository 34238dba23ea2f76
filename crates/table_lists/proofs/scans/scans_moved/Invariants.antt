use Rattle.std.proofs.Common.{◌≡◌, take, map}
use Rattle.table_model.specs.Steps.{moved}
use Rattle.table_lists.proofs.scans.scans_moved.Given as goal

abbrev pub invariant-loop-scan : goal.invariant-loop-scan
invariant-loop-scan l = l.out.items ≡ map (moved l.name l.len) (take l.scan-index l.scans)
