use Rattle.volume_edits.proofs.Derived.{derives_version}
use Rattle.volume_edits.proofs.a_derived_version.Goals as goal

pub returns : goal.returns
returns g c = λ old new records v index oid made is vol geometry apart in_use takes has frozen some below above derives. derives_version g.P.Ground old new records v vol index oid made is geometry apart in_use takes has frozen some below above derives
