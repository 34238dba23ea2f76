use Rattle.std.proofs.Common.{None}
use Rattle.volume_model.proofs.OwnersScanned.{closed, few_scanned, opened, scan_first}
use Rattle.volume_model.proofs.a_scan_keeps_owners.Goals as goal

pub returns-clause-opened : goal.returns-clause-opened
returns-clause-opened c = λ d used refs gained lost scans disk working owners root there. opened d used refs gained lost scans disk working owners root there

pub returns-clause-counted : goal.returns-clause-counted
returns-clause-counted c = λ d used refs gained lost scans disk working owners few u. few_scanned d used refs gained lost scans disk working owners None few u

pub returns-clause-closed : goal.returns-clause-closed
returns-clause-closed c = λ d used refs gained lost scans disk working owners root others without left fewer released.
    closed d used refs gained lost scans disk working owners root others without left fewer (released (scan_first d used refs gained lost scans disk working owners root others without))
