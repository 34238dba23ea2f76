use Rattle.session_core.proofs.Quiet.{nothing_changed}
use Rattle.transactions.proofs.edits.stays_small.Goals as goal

pub returns-then-is_some-clause-only : goal.returns-then-is_some-clause-only
returns-then-is_some-clause-only g c = nothing_changed _ _
