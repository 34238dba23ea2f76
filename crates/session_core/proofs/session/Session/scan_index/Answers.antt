use Rattle.session_core.proofs.Sessions.{seen}
use Rattle.session_core.proofs.session.Session.scan_index.Goals as goal

pub returns-clause-session : goal.returns-clause-session
returns-clause-session c = seen c.self.view_is c.self.invariant
