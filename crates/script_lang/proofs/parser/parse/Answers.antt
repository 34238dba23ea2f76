use Rattle.std.proofs.Common.{◌∙◌, ◌∷◌, sym}
use Rattle.table_model.specs.Requests.{request_of}
use Rattle.script_lang.specs.LineWords.{words_of}
use Rattle.script_lang.specs.Reading.{Asks, Fails}
use Rattle.script_lang.proofs.Laws.{one_reading, refused, same_words, spelled_keeps}
use Rattle.script_lang.proofs.parser.parse.Goals as goal

pub returns-in-Ok-clause-says : goal.returns-in-Ok-clause-says
returns-in-Ok-clause-says c =
    same_words (words_of c.args.line.now) (c.in-Some.first.now ∷ words_of c.next.new.self.0.now) (Asks (request_of c.in-Ok.command)) (sym c.of-words.ensures ∙ c.in-Some.ensures.steps) c.in-Ok.ensures

pub returns-in-Ok-clause-one : goal.returns-in-Ok-clause-one
returns-in-Ok-clause-one c reading told =
    one_reading (words_of c.args.line.now) reading (Asks (request_of c.in-Ok.command)) told
    (same_words (words_of c.args.line.now) (c.in-Some.first.now ∷ words_of c.next.new.self.0.now) (Asks (request_of c.in-Ok.command)) (sym c.of-words.ensures ∙ c.in-Some.ensures.steps) c.in-Ok.ensures)

pub returns-in-Ok-clause-form : goal.returns-in-Ok-clause-form
returns-in-Ok-clause-form c = (spelled_keeps (c.in-Some.first.now ∷ words_of c.next.new.self.0.now) (request_of c.in-Ok.command) c.in-Ok.ensures.0).3 c.in-Ok.ensures.1

pub returns-in-Ok-clause-names : goal.returns-in-Ok-clause-names
returns-in-Ok-clause-names c = (spelled_keeps (c.in-Some.first.now ∷ words_of c.next.new.self.0.now) (request_of c.in-Ok.command) c.in-Ok.ensures.0).2

pub returns-in-Ok-clause-binds : goal.returns-in-Ok-clause-binds
returns-in-Ok-clause-binds c = (spelled_keeps (c.in-Some.first.now ∷ words_of c.next.new.self.0.now) (request_of c.in-Ok.command) c.in-Ok.ensures.0).0

pub returns-in-Ok-clause-words : goal.returns-in-Ok-clause-words
returns-in-Ok-clause-words c = (spelled_keeps (c.in-Some.first.now ∷ words_of c.next.new.self.0.now) (request_of c.in-Ok.command) c.in-Ok.ensures.0).1

pub returns-in-Err-clause-says : goal.returns-in-Err-clause-says
returns-in-Err-clause-says c =
    same_words (words_of c.args.line.now) (c.in-Some.first.now ∷ words_of c.next.new.self.0.now) (Fails c.in-Err.why) (sym c.of-words.ensures ∙ c.in-Some.ensures.steps) c.in-Err.ensures

pub returns-in-Err-clause-one : goal.returns-in-Err-clause-one
returns-in-Err-clause-one c reading told =
    one_reading (words_of c.args.line.now) reading (Fails c.in-Err.why) told
    (same_words (words_of c.args.line.now) (c.in-Some.first.now ∷ words_of c.next.new.self.0.now) (Fails c.in-Err.why) (sym c.of-words.ensures ∙ c.in-Some.ensures.steps) c.in-Err.ensures)

pub returns-in-Err-clause-refusals : goal.returns-in-Err-clause-refusals
returns-in-Err-clause-refusals c = refused (c.in-Some.first.now ∷ words_of c.next.new.self.0.now) c.in-Err.why c.in-Err.ensures
