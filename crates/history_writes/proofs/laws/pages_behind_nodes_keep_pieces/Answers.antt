use Rattle.history_writes.proofs.Staying.{pieces_stay}
use Rattle.history_writes.proofs.laws.pages_behind_nodes_keep_pieces.Goals as goal

pub returns : goal.returns
returns c = pieces_stay
