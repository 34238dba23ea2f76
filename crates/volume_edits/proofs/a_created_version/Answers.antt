use Rattle.volume_edits.proofs.Creating.{creates_object}
use Rattle.volume_edits.proofs.a_created_version.Goals as goal

pub returns : goal.returns
returns g c = λ old new records v index oid e vol geometry apart in_use takes file entry its some below above creates. creates_object g.P.Ground old new records v vol index oid e geometry apart in_use takes file entry its some below above creates
