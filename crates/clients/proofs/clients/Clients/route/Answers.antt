use Rattle.std.proofs.Common.{Option, Some, IfSome, ap, subst, sym}
use Rattle.script_lines.specs.Lines.{Line, Short}
use Rattle.script_lines.specs.Reader.{line_lent}
use Rattle.clients.specs.Prepared.{IsPrepared, IsTurnOf}
use Rattle.clients.specs.Turns.{Quiet}
use Rattle.clients.proofs.Preparing.{keeps_quiet, keeps_said, quiet_rest}
use Rattle.clients.proofs.clients.Clients.route.Goals as goal

pub returns-in-Quiet-clause-prepared : goal.returns-in-Quiet-clause-prepared
returns-in-Quiet-clause-prepared c =
    subst (λ (o : Option Line). IfSome o (λ l. IsPrepared l c.args.self.now)) (sym (ap line_lent c.in-Line.is)) (keeps_quiet (Some (Short c.in-Line.line.now)) c.args.self.now c.in-Quiet.ensures)

pub returns-in-Unread-clause-quiet : goal.returns-in-Unread-clause-quiet
returns-in-Unread-clause-quiet c turn = absurd (c.in-Unread.ensures.0 (subst (λ (o : Option Line). IsTurnOf o Quiet) (ap line_lent c.in-Line.is) turn))

pub returns-in-Of-clause-prepared : goal.returns-in-Of-clause-prepared
returns-in-Of-clause-prepared c =
    subst (λ (o : Option Line). IfSome o (λ l. IsPrepared l c.take.new.self)) (sym (ap line_lent c.in-Line.is))
    (keeps_said c.in-Line.line.now c.in-Of.rest.now c.take.new.self c.in-Of.client c.in-Of.ensures c.take.ensures.client c.take.ensures.names)

pub returns-in-Of-clause-quiet : goal.returns-in-Of-clause-quiet
returns-in-Of-clause-quiet c turn =
    c.take.ensures.quiet (quiet_rest c.in-Line.line.now c.in-Of.rest.now c.in-Of.client c.in-Of.ensures (subst (λ (o : Option Line). IsTurnOf o Quiet) (ap line_lent c.in-Line.is) turn))
