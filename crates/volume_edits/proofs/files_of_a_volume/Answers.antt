use Rattle.volume_edits.proofs.Contents.{contents, has_files}
use Rattle.volume_edits.proofs.files_of_a_volume.Goals as goal

pub returns : goal.returns
returns g c = record {
  whole = λ s records v vol. has_files g.P.Ground s records v vol;
  each = λ s records v vol. contents g.P.Ground s records v vol;
}
