use Rattle.std.proofs.Common.{◌≡◌, drop}
use Rattle.std.specs.Prelude.{bytes_eq}
use Rattle.std.specs.List.{list_any}
use Rattle.table_lists.proofs.scans.is_scan.Given as goal

abbrev pub invariant-loop-scan : goal.invariant-loop-scan
invariant-loop-scan l = list_any (λ b. bytes_eq b.name l.name) (drop l.scan-index l.scans) ≡ list_any (λ b. bytes_eq b.name l.name) l.scans
