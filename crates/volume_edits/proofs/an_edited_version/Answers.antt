use Rattle.volume_edits.proofs.Changing.{changes_volume}
use Rattle.volume_edits.proofs.an_edited_version.Goals as goal

pub returns : goal.returns
returns g c = λ old new records v index oid head content change before bytes vol geometry apart had edit. changes_volume g.P.Ground old new records v vol index oid head content change before bytes geometry apart had edit
