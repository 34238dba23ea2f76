use Rattle.history_fronts.proofs.Follows.{refused_alone}
use Rattle.history_fronts.proofs.laws.refused_bytes_are_not_read.Goals as goal

pub returns : goal.returns
returns c = refused_alone
