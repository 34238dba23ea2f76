use Rattle.volume_edits.proofs.Listed.{file_listed}
use Rattle.volume_edits.proofs.a_listed_file.Goals as goal

pub returns : goal.returns
returns g c = λ s records v e index oids vol entry file number moves sorted. file_listed g.P.Ground s records v vol e index oids entry file number moves sorted
