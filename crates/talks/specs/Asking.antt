-- What a line asks for, as plain values.
use Rattle.std.specs.Prelude.{IsTrue}
use Rattle.table_model.specs.Requests.{request_of, is_request}
use Rattle.script_lang.specs.Reading.{Reading, Silent, Asks, Fails}
use Rattle.talks.specs.declared.talk.Asked.{Asked}
use Rattle.talks.specs.declared.talk.Asked.TheVariants as asked

-- nothing, a request, or a refusal
abbrev pub reading_of : Asked → Reading
reading_of asked.Nothing = Silent
reading_of (asked.Step command) = Asks (request_of command)
reading_of (asked.Refused why) = Fails why

-- What is to be stepped keeps the forms and limits of a line's words.
abbrev pub IsFormed : Asked → Type 0
IsFormed asked.Nothing = Unit {0}
IsFormed (asked.Step command) = IsTrue (is_request (request_of command))
IsFormed (asked.Refused why) = Unit {0}
