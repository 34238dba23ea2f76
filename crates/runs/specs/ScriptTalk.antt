-- What a script means as a talk.
use Rattle.std.specs.Prelude.{◌≡◌, ℕ}
use Rattle.std.proofs.Common.{refl}
use Rattle.script_lines.specs.Reader.{current}
use Rattle.script_replies.specs.ReplyText.{text_of}
use Rattle.talks.specs.Acking.{Acking}
use Rattle.talks.specs.Talking.{Talking}
use Rattle.runs.specs.Acknowledged.{commit_of}
use Rattle.runs.specs.Heard.{AsksOf, Heard, LastAsks}
use Rattle.runs.specs.LineAcking.{line_acking}
use Rattle.runs.specs.ReplyLines.{IsLine}
use Rattle.runs.specs.ScriptLaws as script
use Rattle.runs.specs.Source.{BeginsReading}
use Rattle.runs.specs.TalkLaws as laws
use Rattle.runs.specs.Talked.{HasHeard, HasNext, IsRead, IsBrokenOff}
use Rattle.runs.specs.declared.script.Script.{Script}

-- Replies are sent as lines of text: what was sent acknowledges the greatest commit whose line stands in it, and a stop may leave that one or the next.
abbrev pub script_acking : Acking
script_acking = line_acking commit_of (λ told text. IsLine told × (text ≡ text_of told)) script.tells_line

abbrev pub script_talking : Talking Script
script_talking = record {
  acking = script_acking;
  Asked = λ script reading. AsksOf (current script.reader) reading;
  text = λ script told. text_of told;
  Had = λ first left had now at. HasHeard Heard first.reader left had now.reader at;
  Waits = λ first left had now at. HasNext Heard first.reader left had now.reader at;
  Over = λ first left had now at. IsRead Heard first.reader left had at;
  Broken = λ first left had last why handed at. IsBrokenOff Heard LastAsks first.reader left had last why at;
  begun = λ first left. laws.begun first.reader left refl;
  quiet = λ first now left at had waits asks. script.quiet waits asks;
  stopped = λ first now left at had reading why waits asks loud part. laws.stopped reading why waits (script.waits_for reading waits asks) part;
  ended = λ first now left at had why over part. laws.ended why over tt part;
  tells = script.tells;
}

-- Nothing of it was taken yet, and so many bytes count.
abbrev pub script_begins : Script → ℕ → Type 0
script_begins script most = BeginsReading script.reader most
