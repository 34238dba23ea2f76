use Rattle.clients.proofs.LineTurns.{one_turn}
use Rattle.clients.proofs.laws.a_line_is_one_turn.Goals as goal

pub returns : goal.returns
returns c = one_turn
