use Rattle.volume_edits.proofs.Listing.{adds_file}
use Rattle.volume_edits.proofs.a_volume_with_a_file_more.Goals as goal

pub returns : goal.returns
returns g c = λ old new records v name file_no vol writes. adds_file g.P.Ground old new records v vol name file_no writes
