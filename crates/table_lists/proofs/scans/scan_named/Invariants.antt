use Rattle.std.proofs.Common.{◌≡◌, drop}
use Rattle.std.specs.Prelude.{find, bytes_eq}
use Rattle.table_lists.proofs.scans.scan_named.Given as goal

abbrev pub invariant-loop-scan : goal.invariant-loop-scan
invariant-loop-scan l = find (λ s. bytes_eq s.name l.name) (drop l.scan-index l.scans) ≡ find (λ s. bytes_eq s.name l.name) l.scans
