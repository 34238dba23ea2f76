use Rattle.std.proofs.Common.{◌∙◌, refl, sym}
use Rattle.table_model.specs.Requests.{given_of, reference_of}
use Rattle.table_model.specs.Requests as request
use Rattle.session_core.proofs.Refusing.{closed_refused}
use Rattle.transactions.proofs.UpdateLines.{line_closed}
use Rattle.transactions.proofs.changes.insert.Goals as goal

pub returns-then-not-is_open-clause-line : goal.returns-then-not-is_open-clause-line
returns-then-not-is_open-clause-line g c =
    line_closed c.args.session.now (request.Insert (reference_of c.args.x.now) c.args.pos (given_of c.args.given.now)) (g.H.World.is_world c.args.host.now) c.is_open.ensures.session (sym c.is_open.ensures.value ∙ c.if-not-is_open.true)
    (λ m q closed. closed_refused m _ closed)

pub returns-clause-line : goal.returns-clause-line
returns-clause-line g c = c.change.ensures.line (request.Insert (reference_of c.args.x.now) c.args.pos (given_of c.args.given.now)) (refl, refl)
