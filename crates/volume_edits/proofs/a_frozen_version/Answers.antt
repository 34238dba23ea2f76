use Rattle.volume_edits.proofs.Frozen.{freezes_version}
use Rattle.volume_edits.proofs.a_frozen_version.Goals as goal

pub returns : goal.returns
returns g c = λ old new records v index oid made is vol geometry apart in_use takes has current some below above freezes. freezes_version g.P.Ground old new records v vol index oid made is geometry apart in_use takes has current some below above freezes
