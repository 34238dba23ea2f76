use Rattle.std.proofs.Common.{ap, Err, inl}
use Rattle.std.proofs.lemmas.Result.{err_from_is_err_and}
use Rattle.script_lines.specs.Lines.{Short, Long}
use Rattle.runs.proofs.Talked.{waits_more, read_whole, broken_taking, taking_caused, taking_stop}
use Rattle.runs.proofs.script.ScriptTalk.advance.Goals as goal

pub returns-in_err-advance-clause-caused : goal.returns-in_err-advance-clause-caused
returns-in_err-advance-clause-caused g c =
    let p = err_from_is_err_and c.from_residual.result c.from_residual.ensures.1 in
    rw (p.1, p.2) (taking_caused c.in_err-advance.field-0.0 (g.H.World.outside c.args.host.now) (g.H.World.outside c.advance.new.source) (λ is. c.in_err-advance.ensures.read (ap (λ f. Err f) is)))

pub returns-in_err-advance-clause-stops : goal.returns-in_err-advance-clause-stops
returns-in_err-advance-clause-stops g c =
    let p = err_from_is_err_and c.from_residual.result c.from_residual.ensures.1 in
    rw (p.1, p.2) (taking_stop c.in_err-advance.field-0.0)

pub returns-in_err-advance-clause-fails : goal.returns-in_err-advance-clause-fails
returns-in_err-advance-clause-fails g c =
    let p = err_from_is_err_and c.from_residual.result c.from_residual.ensures.1 in
    rw (p.1, p.2) (inl (taking_stop c.in_err-advance.field-0.0))

pub returns-in_err-advance-clause-broken : goal.returns-in_err-advance-clause-broken
returns-in_err-advance-clause-broken g c =
    let p = err_from_is_err_and c.from_residual.result c.from_residual.ensures.1 in
    rw (p.1, p.2) (λ first left had so_far. broken_taking c.in_err-advance.field-0.0 so_far tt (λ is. c.in_err-advance.ensures.too_much (ap (λ f. Err f) is)) c.advance.ensures.drawn)

pub returns-in-End-clause-over : goal.returns-in-End-clause-over
returns-in-End-clause-over g c same first left had so_far = read_whole c.advance.new.self so_far c.in-End.ensures c.in_ok-advance.ensures.takes c.advance.ensures.drawn

pub returns-in-Long-clause-taken : goal.returns-in-Long-clause-taken
returns-in-Long-clause-taken g c same first left had so_far = waits_more so_far Long c.in-Long.ensures c.in_ok-advance.ensures.takes c.advance.ensures.drawn

pub returns-in-Line-clause-taken : goal.returns-in-Line-clause-taken
returns-in-Line-clause-taken g c same first left had so_far = waits_more so_far (Short c.in-Line._line.now) c.in-Line.ensures c.in_ok-advance.ensures.takes c.advance.ensures.drawn
