-- What a whole run of a script promises, from the opening of the volume to the last line that was taken.
use Rattle.std.specs.Prelude.{◌≡◌, ◌⊎◌, ℕ, IfSome, Option, Some, None, List, [], ◌++◌}
use Rattle.disk_model.specs.Outside.{Outside, Along}
use Rattle.table_model.specs.declared.table.Table.{Table}
use Rattle.table_model.specs.Requests.{Request}
use Rattle.script_lines.specs.Lines.{Line}
use Rattle.script_lang.specs.Reading.{Reading, Asks, Reads}
use Rattle.script_replies.specs.ReplyText.{text_of}
use Rattle.session_views.specs.View.{View, Meaning}
use Rattle.engines.specs.Keeping.{Conduct}
use Rattle.talks.specs.Headline.{OpenedAt, Unopened}
use Rattle.talks.specs.Stops.{IsWhole}
use Rattle.talks.specs.Transcript.{Row, Trail, IsRunMoment, FrontOfText, LastKept, Ended, exchanges, last_time, output_of}
use Rattle.talks.specs.declared.stopped.Stopped.{Stopped}
use Rattle.talks.specs.declared.stopped.Stopped.TheVariants.{Output}
use Rattle.runs.specs.Heard.{Heard}
use Rattle.runs.specs.Script.{TakenBy, line_if}
use Rattle.runs.specs.ScriptTalk.{script_acking}

-- A front of the text of the reply to a line, and not all of it: the line's step began.
pub record FrontOfReply {S : Type 0} (M : Meaning S) (before : View S) (line : Line) (front : List ℕ) : Type 0 where
  pub reading : Reading
  pub reads : Reads line reading
  pub begun : FrontOfText M text_of before reading front

-- what the run sent of the reply to the last line
abbrev pub LastReply : {S : Type 0} → Meaning S → View S → Option Line → List ℕ → Type 0
LastReply M before None front = front ≡ []
LastReply M before (Some line) front = (front ≡ []) ⊎ FrontOfReply M before line front

abbrev pub AskedBy : Option Line → Option Request → Type 0
AskedBy line None = Unit {0}
AskedBy None (Some r) = ⊥
AskedBy (Some line) (Some r) = Reads line (Asks r)

-- The volume was opened and lines were stepped, to the end of the script (None) or to a stop.
-- The first sentence, what was written: script, heard, sent, is_front, uncut. The second, the views between, and what each step kept: opened, trail,
-- kept, ended. The third, what a stop leaves: stops.
pub record SteppedLines {S H : Type 0} (M : Meaning S) (C : Conduct S H) (Fresh : View S → Type 0) (table : Table) (was : List ℕ) (most : ℕ) (entry now : Outside) (ending : Option Stopped) : Type 0 where
  -- the volume as it was opened, at a time before anything was sent
  pub opening : View S
  pub time : ℕ
  pub opened : OpenedAt M Fresh table was entry now time opening
  -- the lines that were taken, and what they are of the script, where the source tells it
  pub lines : List Line
  pub script : (bytes : List ℕ) → entry.left ≡ Some bytes → TakenBy ending most bytes lines
  -- the rows of the lines whose replies were sent whole, with their views, and the line after them, where there is one
  pub rows : List (Row S)
  pub after : View S
  pub done : List Line
  pub last : Option Line
  pub taken : lines ≡ done ++ line_if last
  pub complete : IsWhole ending → last ≡ None
  pub heard : Heard done (exchanges rows)
  -- what was sent behind them: nothing, but where the output failed
  pub front : List ℕ
  pub sent : now.sent ≡ Some (was ++ output_of rows ++ front)
  pub is_front : LastReply M after last front
  pub uncut : (ending ≡ Some Output → ⊥) → front ≡ []
  pub trail : Trail M C now was time [] opening rows after
  pub ended : ending ≡ None → Ended M C (last_time time rows) after now
  -- the request of the last line, where its step began
  pub asked : Option Request
  pub is_asked : AskedBy last asked
  pub kept : IfSome ending (LastKept M C (last_time time rows) now after asked)
  pub stops : Along entry now (IsRunMoment M script_acking opening.machine rows after.machine asked was)

-- what a run promises, given how it ends
abbrev pub Headline : {S H : Type 0} → Meaning S → Conduct S H → (View S → Type 0) → Table → List ℕ → ℕ → Outside → Outside → Option Stopped → Type 0
Headline M C Fresh table was most entry now ending = SteppedLines M C Fresh table was most entry now ending ⊎ Unopened M table was entry now ending
