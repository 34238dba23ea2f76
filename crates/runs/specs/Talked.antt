-- How far the lines of a source were taken: from the first reader and source to these, as exchanges were had. `H` says which exchanges answer which lines,
-- and `A` what the line behind them asks for, which has no answer yet.
use Rattle.std.specs.Prelude.{◌≡◌, Option, Some, None, List, [], ◌∷◌, ◌++◌}
use Rattle.script_lines.specs.Lines.{Line}
use Rattle.script_lines.specs.Reader.{ahead, counted, current, to_take}
use Rattle.script_lines.specs.Remains.{Draws, IfTold}
use Rattle.script_lines.specs.declared.lines.Lines.{Lines}
use Rattle.script_lang.specs.Reading.{Reading}
use Rattle.talks.specs.Stops.{IsWhole}
use Rattle.talks.specs.Talking.{Exchange, Left}
use Rattle.talks.specs.declared.stopped.Stopped.{Stopped}
use Rattle.runs.specs.Script.{HasMoved, Loses, TakenBy, line_if}

-- The lines that were taken are answered so.
pub record HasHeard (H : List Line → List Exchange → Type 0) (first : Lines) (left : Left) (had : List Exchange) (now : Lines) (at : Left) : Type 0 where
  pub lines : List Line
  pub moved : HasMoved (ahead first) left (counted first) lines (ahead now) at (counted now)
  pub heard : H lines had
  pub drawn : Draws (to_take first) left (to_take now) at

-- One line more was taken, and isn't answered yet.
pub record HasNext (H : List Line → List Exchange → Type 0) (first : Lines) (left : Left) (had : List Exchange) (now : Lines) (at : Left) : Type 0 where
  pub lines : List Line
  pub next : Line
  pub shown : Some next ≡ current now
  pub moved : HasMoved (ahead first) left (counted first) (lines ++ next ∷ []) (ahead now) at (counted now)
  pub heard : H lines had
  pub drawn : Draws (to_take first) left (to_take now) at

-- The source is at its end: each line is answered, and nothing is left.
pub record IsRead (H : List Line → List Exchange → Type 0) (first : Lines) (left : Left) (had : List Exchange) (at : Left) : Type 0 where
  pub lines : List Line
  pub script : IfTold (ahead first) left (λ bytes. TakenBy None (counted first) bytes lines)
  pub end : IfTold (ahead first) left (λ bytes. at ≡ Some [])
  pub heard : H lines had
  pub drawn : Loses (to_take first) left at

-- It ended early: all lines that were taken are answered but perhaps the last one, which asked for that.
pub record IsBrokenOff (H : List Line → List Exchange → Type 0) (A : Option Line → Option Reading → Type 0) (first : Lines) (left : Left) (had : List Exchange) (last : Option Reading) (why : Stopped) (at : Left) : Type 0 where
  pub lines : List Line
  pub next : Option Line
  pub asks : A next last
  pub complete : IsWhole (Some why) → next ≡ None
  pub script : IfTold (ahead first) left (λ bytes. TakenBy (Some why) (counted first) bytes (lines ++ line_if next))
  pub heard : H lines had
  pub drawn : Loses (to_take first) left at
