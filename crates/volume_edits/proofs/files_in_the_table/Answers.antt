use Rattle.volume_edits.proofs.Emptied.{file_names, no_file, file_objects}
use Rattle.volume_edits.proofs.files_in_the_table.Goals as goal

pub returns : goal.returns
returns g c = record {
  names = λ s records v vol. file_names g.P.Ground s records v vol;
  there = λ s records v e vol entry. (file_objects g.P.Ground s records v vol e entry).0;
  absent = λ s records v name vol lacks. no_file g.P.Ground s records v vol name lacks;
  objects = λ s records v e vol entry. (file_objects g.P.Ground s records v vol e entry).1;
}
