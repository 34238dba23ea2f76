use Rattle.std.proofs.Common.{ap, Err, IfSome, Option, subst}
use Rattle.std.proofs.lemmas.Result.{err_from_is_err_and}
use Rattle.script_lines.specs.Lines.{Line, Short, Long}
use Rattle.runs.proofs.Talked.{broken_taking}
use Rattle.clients.specs.Prepared.{IsPrepared}
use Rattle.clients.proofs.Serving.{takes_line, takes_none}
use Rattle.clients.proofs.schedule.ScheduleTalk.advance.Goals as goal

pub returns-in_err-advance-clause-broken : goal.returns-in_err-advance-clause-broken
returns-in_err-advance-clause-broken g c =
    let p = err_from_is_err_and c.from_residual.result c.from_residual.ensures.1 in
    rw (p.1, p.2) (λ first left had so_far. broken_taking c.in_err-advance.field-0.0 so_far tt (λ is. c.in_err-advance.ensures.too_much (ap (λ f. Err f) is)) c.advance.ensures.drawn)

pub returns-in-End-clause-over : goal.returns-in-End-clause-over
returns-in-End-clause-over g c same first left had so_far =
    takes_none first c.args.self.now (record { reader = c.advance.new.self; clients = c.route.new.self; text = c.args.self.now.text }) c.route.ensures.owner so_far c.in_ok-advance.ensures.takes
    c.advance.ensures.drawn c.in-End.ensures

pub returns-in-Long-clause-taken : goal.returns-in-Long-clause-taken
returns-in-Long-clause-taken g c same first left had so_far =
    takes_line first c.args.self.now (record { reader = c.advance.new.self; clients = c.route.new.self; text = c.args.self.now.text }) c.route.ensures.owner so_far c.in_ok-advance.ensures.takes
    c.advance.ensures.drawn Long c.in-Long.ensures (subst (λ (o : Option Line). IfSome o (λ l. IsPrepared l c.route.new.self)) c.line-line.ensures c.route.ensures.prepared)

pub returns-in-Line-clause-taken : goal.returns-in-Line-clause-taken
returns-in-Line-clause-taken g c same first left had so_far =
    takes_line first c.args.self.now (record { reader = c.advance.new.self; clients = c.route.new.self; text = c.args.self.now.text }) c.route.ensures.owner so_far c.in_ok-advance.ensures.takes
    c.advance.ensures.drawn (Short c.in-Line._line.now) c.in-Line.ensures (subst (λ (o : Option Line). IfSome o (λ l. IsPrepared l c.route.new.self)) c.line-line.ensures c.route.ensures.prepared)
