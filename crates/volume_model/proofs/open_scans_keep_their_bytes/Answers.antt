use Rattle.volume_model.proofs.ScansKept.{owned_stay, scans_shown}
use Rattle.volume_model.proofs.open_scans_keep_their_bytes.Goals as goal

pub returns-clause-kept : goal.returns-clause-kept
returns-clause-kept c = scans_shown

pub returns-clause-committed : goal.returns-clause-committed
returns-clause-committed c = owned_stay
