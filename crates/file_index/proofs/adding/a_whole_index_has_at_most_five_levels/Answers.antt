use Rattle.file_index.proofs.Heights.{five_levels}
use Rattle.file_index.proofs.adding.a_whole_index_has_at_most_five_levels.Goals as goal

pub returns : goal.returns
returns g c = λ s index has. five_levels (g.P.Ground.geometry s) (g.P.Ground.image s) index.file_no index.level index.root has.whole
