use Rattle.volume_moves.proofs.Moving.{moves_tree}
use Rattle.volume_moves.proofs.a_moved_version.Goals as goal

pub returns : goal.returns
returns g c = λ old new records v index oid head gone come bytes vol geometry apart had edit own. moves_tree g.P.Ground old new records v vol index oid head gone come bytes geometry apart had edit own
