use Rattle.volume_edits.proofs.TakenOut.{removes_version}
use Rattle.volume_edits.proofs.a_removed_version.Goals as goal

pub returns : goal.returns
returns g c = λ old new records v index oid is vol geometry apart in_use gives has current branch takes. removes_version g.P.Ground old new records v vol index oid is geometry apart in_use gives has current branch takes
