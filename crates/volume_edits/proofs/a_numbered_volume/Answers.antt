use Rattle.volume_edits.proofs.Listing.{numbers_volume}
use Rattle.volume_edits.proofs.a_numbered_volume.Goals as goal

pub returns : goal.returns
returns g c = λ old new records v n vol le writes. numbers_volume g.P.Ground old new records v vol n le writes
