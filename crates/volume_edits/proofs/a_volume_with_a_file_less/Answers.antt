use Rattle.volume_edits.proofs.Listing.{removes_file}
use Rattle.volume_edits.proofs.a_volume_with_a_file_less.Goals as goal

pub returns : goal.returns
returns g c = λ old new records v name vol rootless writes. removes_file g.P.Ground old new records v vol name rootless writes
