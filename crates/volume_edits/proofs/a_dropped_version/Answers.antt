use Rattle.volume_edits.proofs.Dropped.{drops_version}
use Rattle.volume_edits.proofs.a_dropped_version.Goals as goal

pub returns : goal.returns
returns g c = λ old new records v index oid is vol geometry apart in_use gives has frozen drops. drops_version g.P.Ground old new records v vol index oid is geometry apart in_use gives has frozen drops
