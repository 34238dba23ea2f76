-- A script's line is answered.
use Rattle.std.proofs.Common.{◌≡◌, List, [], ◌∷◌, ◌++◌, refl}
use Rattle.table_model.specs.declared.reply.Reply.{Reply}
use Rattle.script_lines.specs.Reader.{current}
use Rattle.script_lines.specs.declared.lines.Lines.{Lines}
use Rattle.script_lang.specs.Reading.{Reading}
use Rattle.script_replies.specs.ReplyText.{text_of}
use Rattle.talks.specs.Talking.{Exchange, Left}
use Rattle.runs.specs.Heard.{AsksOf, Heard}
use Rattle.runs.specs.ScriptLaws.{heard_more, waits_for}
use Rattle.runs.specs.TalkLaws.{heard_next}
use Rattle.runs.specs.Talked.{HasHeard, HasNext}

pub heard_answer : {first old : Lines} {left a b : Left} {had : List Exchange} (reading : Reading) (told : Reply) → HasNext Heard first left had old a → AsksOf (current old) reading → b ≡ a
    → HasHeard Heard first left (had ++ record { reading = reading; told = told; text = text_of told } ∷ []) old b
heard_answer {had = had} reading told waits asks same =
    rw same (heard_next waits
    (heard_more waits.lines waits.next had (record { reading = reading; told = told; text = text_of told }) waits.heard (record { reads = waits_for reading waits asks; text = refl })))
