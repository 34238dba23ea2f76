-- What the serving of a schedule promises, from the opening of the volume to the last line that was taken.
use Rattle.std.specs.Prelude.{◌≡◌, ◌⊎◌, ℕ, IfSome, Option, Some, None, List, [], ◌++◌, is_some}
use Rattle.disk_model.specs.Outside.{Outside, Along}
use Rattle.table_model.specs.declared.table.Table.{Table}
use Rattle.table_model.specs.Requests.{Request}
use Rattle.script_lines.specs.Lines.{Line}
use Rattle.script_lang.specs.Reading.{Reading, Asks}
use Rattle.session_views.specs.View.{View, Meaning}
use Rattle.engines.specs.Keeping.{Conduct}
use Rattle.talks.specs.Headline.{OpenedAt, Unopened}
use Rattle.talks.specs.Stops.{IsWhole}
use Rattle.talks.specs.Transcript.{Row, Trail, IsRunMoment, FrontOfText, LastKept, Ended, exchanges, last_time, output_of}
use Rattle.talks.specs.declared.stopped.Stopped.{Stopped}
use Rattle.talks.specs.declared.stopped.Stopped.TheVariants.{Output}
use Rattle.runs.specs.Script.{TakenBy, line_if}
use Rattle.clients.specs.Heard.{Heard, IsRouted}
use Rattle.clients.specs.Routing.{routed, turn_text}
use Rattle.clients.specs.Sending.{turn_acking}
use Rattle.clients.specs.Turns.{IsTurn, Said}

-- A front of the text of the reply to a client's line, and not all of it: the line's step began.
pub record FrontOfTurn {S : Type 0} (M : Meaning S) (before : View S) (owner : Option ℕ) (line : Line) (front : List ℕ) : Type 0 where
  pub client : ℕ
  pub said : Reading
  pub turn : IsTurn line (Said client said)
  pub begun : FrontOfText M (turn_text client) before (routed owner client said) front

-- what was sent of the reply to the last line
abbrev pub LastReply : {S : Type 0} → Meaning S → View S → Option ℕ → Option Line → List ℕ → Type 0
LastReply M before owner None front = front ≡ []
LastReply M before owner (Some line) front = (front ≡ []) ⊎ FrontOfTurn M before owner line front

-- what the last line asked the session for
abbrev pub AskedBy : Option ℕ → Option Line → Option Request → Type 0
AskedBy owner line None = Unit {0}
AskedBy owner None (Some r) = ⊥
AskedBy owner (Some line) (Some r) = (client : ℕ) × IsRouted owner client line (Asks r)

-- The volume was opened and lines of clients were answered, to the end of the schedule (None) or to a stop.
-- The first sentence, what was written: script, heard, sent, is_front, uncut. The second, the views between, and what each step kept: opened, trail,
-- kept, ended. The third, what a stop leaves: stops.
pub record ServedTurns {S H : Type 0} (M : Meaning S) (C : Conduct S H) (Fresh : View S → Type 0) (table : Table) (was : List ℕ) (most : ℕ) (entry now : Outside) (ending : Option Stopped) : Type 0 where
  -- the volume as it was opened, at a time before anything was sent
  pub opening : View S
  pub time : ℕ
  pub opened : OpenedAt M Fresh table was entry now time opening
  -- the lines that were taken: those that were answered, and the one after them, where there is one
  pub done : List Line
  pub last : Option Line
  pub script : (bytes : List ℕ) → entry.left ≡ Some bytes → TakenBy ending most bytes (done ++ line_if last)
  pub complete : IsWhole ending → last ≡ None
  -- the rows of those whose replies were sent whole, with their views; and the client whose transaction is open behind them, where one is
  pub rows : List (Row S)
  pub after : View S
  pub owner : Option ℕ
  pub heard : Heard None done (exchanges rows) owner
  pub whose : is_some owner ≡ is_some after.machine.working
  -- what was sent behind them: nothing, but where the output failed
  pub front : List ℕ
  pub sent : now.sent ≡ Some (was ++ output_of rows ++ front)
  pub is_front : LastReply M after owner last front
  pub uncut : (ending ≡ Some Output → ⊥) → front ≡ []
  pub trail : Trail M C now was time [] opening rows after
  pub ended : ending ≡ None → Ended M C (last_time time rows) after now
  -- the request of the last line, where its step began
  pub asked : Option Request
  pub is_asked : AskedBy owner last asked
  pub kept : IfSome ending (LastKept M C (last_time time rows) now after asked)
  pub stops : Along entry now (IsRunMoment M turn_acking opening.machine rows after.machine asked was)

-- what it promises, given how it ends
abbrev pub Served : {S H : Type 0} → Meaning S → Conduct S H → (View S → Type 0) → Table → List ℕ → ℕ → Outside → Outside → Option Stopped → Type 0
Served M C Fresh table was most entry now ending = ServedTurns M C Fresh table was most entry now ending ⊎ Unopened M table was entry now ending
