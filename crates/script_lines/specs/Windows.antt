-- What a window holds and shows.
use Rattle.std.specs.Prelude.{◌+◌, ◌-◌, ℕ, Option, Some, None, List}
use Rattle.script_lines.specs.declared.shown.Kind.{Kind}
use Rattle.script_lines.specs.declared.shown.Kind.TheVariants as kind
use Rattle.script_lines.specs.declared.shown.Shown.{Shown}
use Rattle.script_lines.specs.declared.window.Window.{Window}
use Rattle.script_lines.specs.Lines.{Line, Short, Long}
use Rattle.script_lines.specs.Remains.{between}

-- the bytes that are buffered
abbrev pub held : Window → List ℕ
held w = between w.buffer.items w.start w.end

-- how many bytes it may still take of its source
abbrev pub may_take : Window → ℕ
may_take w = w.allowed + 1 - (w.end - w.start)

abbrev pub shown_as : List ℕ → Kind → ℕ → ℕ → Option Line
shown_as buffer kind.Whole from to = Some (Short (between buffer from to))
shown_as buffer kind.Long from to = Some Long
shown_as buffer kind.End from to = None

-- the line that is shown out of a buffer
abbrev pub shown_in : List ℕ → Shown → Option Line
shown_in buffer shown = shown_as buffer shown.kind shown.from shown.to
