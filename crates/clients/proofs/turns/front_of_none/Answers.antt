use Rattle.table_model.specs.Requests.{request_of}
use Rattle.script_lang.specs.LineWords.{words_of}
use Rattle.clients.proofs.Fronts.{asks_loud, fails_loud, not_quiet}
use Rattle.clients.proofs.turns.front_of_none.Goals as goal

pub returns-in-Ok-Some : goal.returns-in-Ok-Some
returns-in-Ok-Some c = (
  not_quiet c.args.line.now c.requires.apart c.requires.alone
      (asks_loud (words_of c.args.line.now) (request_of c.in-Ok-Some.field-0-0) (rw c.in-Ok-Some.field-0-is at c.in-Ok-Some.ensures.one)),
  c.requires.apart,
)

pub returns-in-Err : goal.returns-in-Err
returns-in-Err c = (
  not_quiet c.args.line.now c.requires.apart c.requires.alone (fails_loud (words_of c.args.line.now) c.in-Err.field-0 c.in-Err.ensures.one),
  c.requires.apart,
)
