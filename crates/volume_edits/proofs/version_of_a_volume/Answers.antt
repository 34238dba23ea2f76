use Rattle.volume_edits.proofs.Showing.{version_read, version_found, none_there}
use Rattle.volume_edits.proofs.version_of_a_volume.Goals as goal

pub returns : goal.returns
returns g c = record {
  read = λ s records v oid version vol is. version_read g.P.Ground s records v vol oid version is;
  stands = λ s records v oid version vol is. version_found g.P.Ground s records v vol.shows vol oid version is;
  absent = λ s records v oid vol. none_there g.P.Ground s records v vol oid;
}
