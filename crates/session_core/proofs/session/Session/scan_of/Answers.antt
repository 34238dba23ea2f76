use Rattle.session_core.proofs.Quiet.{nothing_changed}
use Rattle.versions.proofs.Results.{ok_of}
use Rattle.session_core.proofs.session.Session.scan_of.Goals as goal

pub returns-in-Some-clause-only : goal.returns-in-Some-clause-only
returns-in-Some-clause-only g c = nothing_changed _ _

pub returns-in-None-clause-rows : goal.returns-in-None-clause-rows
returns-in-None-clause-rows g c = ok_of c.small_scan.result _ (λ none. c.small_scan.ensures.rows)

pub returns-in_default-clause-only : goal.returns-in_default-clause-only
returns-in_default-clause-only g c = nothing_changed (g.D.World.outside c.args.disk.now) c.args.self.now
