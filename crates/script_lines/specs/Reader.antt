-- A reader of lines, as its users see it.
use Rattle.std.specs.Prelude.{ℕ, Option, Some, None, List, ⊤}
use Rattle.std.specs.Borrow.{follows_so, Fml, MutBor}
use mathlib.Core.Option.{none}
use Rattle.script_lines.specs.declared.lines.Lines.{Lines}
use Rattle.script_lines.specs.declared.shown.LineRef.{LineRef}
use Rattle.script_lines.specs.declared.shown.LineRef.TheVariants as line_ref
use Rattle.script_lines.specs.contracts.lines.Lines.{the_row}
use Rattle.script_lines.specs.Lines.{Line, Short, Long}
use Rattle.script_lines.specs.Windows.{held, may_take, shown_in}

-- the bytes that it took of its source and that stand in no line yet
abbrev pub ahead : Lines → List ℕ
ahead lines = held lines.window

-- how many of the bytes behind the lines that it took count
abbrev pub counted : Lines → ℕ
counted lines = lines.window.allowed

-- how many bytes it may still take of its source
abbrev pub to_take : Lines → ℕ
to_take lines = may_take lines.window

-- the line that it took last, if there was one
abbrev pub current : Lines → Option Line
current lines = shown_in lines.window.buffer.items lines.shown

-- the line that is lent
abbrev pub line_lent : LineRef → Option Line
line_lent (line_ref.Line bytes) = Some (Short bytes.now)
line_lent line_ref.Long = Some Long
line_lent line_ref.End = None

-- P holds of the reader once the line that it lent is let go
abbrev pub ReaderRests : MutBor Lines → (Lines → Type 0) → Fml
ReaderRests lines P = follows_so the_row the_row lines.ghost_name none (λ _ _. ⊤) P
