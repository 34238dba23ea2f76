use Rattle.std.proofs.Common.{◌≡◌, take}
use Rattle.std.specs.Prelude.{filter, not, bytes_eq}
use Rattle.table_lists.proofs.scans.scans_without.Given as goal

abbrev pub invariant-loop-scan : goal.invariant-loop-scan
invariant-loop-scan l = l.out.items ≡ filter (λ s. not (bytes_eq s.name l.name)) (take l.scan-index l.scans)
