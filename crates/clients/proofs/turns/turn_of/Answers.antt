use Rattle.table_model.specs.Requests.{request_of}
use Rattle.script_lang.specs.LineWords.{words_of}
use Rattle.script_lang.specs.Reading.{Asks, Fails}
use Rattle.clients.specs.Turns as quiet
use Rattle.clients.proofs.Fronts.{asks_loud, client_says, fails_loud, unread_says}
use Rattle.clients.proofs.turns.turn_of.Goals as goal

pub returns-in-Unread-clause-turn : goal.returns-in-Unread-clause-turn
returns-in-Unread-clause-turn c = unread_says c.args.line.now c.in-Unread.ensures.0 c.in-Unread.ensures.1

pub returns-in-Ok-None-clause-turn : goal.returns-in-Ok-None-clause-turn
returns-in-Ok-None-clause-turn c = quiet.silent_of c.in-Of.client c.in-Of.rest.now c.in-Of.ensures (rw c.in-Ok-None.field-0-is at c.in-Ok-None.ensures.says)

pub returns-in-Ok-Some-clause-turn : goal.returns-in-Ok-Some-clause-turn
returns-in-Ok-Some-clause-turn c =
    let says = rw c.in-Ok-Some.field-0-is at c.in-Ok-Some.ensures.says in
    let one = rw c.in-Ok-Some.field-0-is at c.in-Ok-Some.ensures.one in
    client_says c.args.line.now c.in-Of.rest.now c.in-Of.client (Asks (request_of c.in-Ok-Some.command)) c.in-Of.ensures
    (asks_loud (words_of c.in-Of.rest.now) (request_of c.in-Ok-Some.command) one) says

pub returns-in-Err-clause-turn : goal.returns-in-Err-clause-turn
returns-in-Err-clause-turn c =
    client_says c.args.line.now c.in-Of.rest.now c.in-Of.client (Fails c.in-Err.refusal) c.in-Of.ensures
    (fails_loud (words_of c.in-Of.rest.now) c.in-Err.refusal c.in-Err.ensures.one) c.in-Err.ensures.says
