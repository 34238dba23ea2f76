-- The lines that a run takes of its script.
use Rattle.std.specs.Prelude.{◌≡◌, ◌≢◌, ◌≤◌, ◌<◌, ◌+◌, ℕ, Option, Some, None, List, [], ◌∷◌, ◌++◌, length, drop}
use Rattle.script_lines.specs.Lines.{Line, lines_of, lines_within}
use Rattle.script_lines.specs.Remains.{Moves}
use Rattle.script_lines.specs.Taking.{Takes}
use Rattle.talks.specs.Talking.{Left}
use Rattle.talks.specs.declared.stopped.Stopped.{Stopped}
use Rattle.talks.specs.declared.stopped.Stopped.TheVariants.{Script, Output, Disk, Memory, BadVolume, Damaged, ScriptLong}

-- These lines are the first ones of those.
abbrev pub IsFrontOf : List Line → List Line → Type 0
IsFrontOf front whole = (rest : List Line) × (whole ≡ front ++ rest)

-- These lines were taken of a script of which `most` bytes count. This is left of it, of which `still` bytes count.
pub record HasTaken (most : ℕ) (script : List ℕ) (taken : List Line) (still : ℕ) (rest : List ℕ) : Type 0 where
  -- the lines as they stood in the script
  pub passed : List ℕ
  pub bytes : script ≡ passed ++ rest
  pub count : length passed + still ≡ most
  -- The lines of the script are these and those of what is left.
  pub lines : lines_of script ≡ taken ++ lines_of rest
  pub within : rest ≢ [] → lines_within most script ≡ taken ++ lines_within still rest

-- At the end of a run (None) all lines of the script were taken, and each of its bytes counts. Where the script was too long, all whole lines
-- among the bytes that count were taken. At any other stop some of the first lines were.
abbrev pub TakenBy : Option Stopped → ℕ → List ℕ → List Line → Type 0
TakenBy None most script lines = (lines ≡ lines_of script) × (length script ≤ most)
TakenBy (Some ScriptLong) most script lines = (lines ≡ lines_within most script) × (most < length script)
TakenBy (Some Script) most script lines = IsFrontOf lines (lines_of script)
TakenBy (Some Output) most script lines = IsFrontOf lines (lines_of script)
TakenBy (Some Disk) most script lines = IsFrontOf lines (lines_of script)
TakenBy (Some Memory) most script lines = IsFrontOf lines (lines_of script)
TakenBy (Some (BadVolume part)) most script lines = IsFrontOf lines (lines_of script)
TakenBy (Some (Damaged page want got)) most script lines = IsFrontOf lines (lines_of script)

-- the lines that were taken, with what stands in the reader and in the source
abbrev pub HasMoved : List ℕ → Left → ℕ → List Line → List ℕ → Left → ℕ → Type 0
HasMoved ahead left most taken after now still = Moves ahead left after now (λ script rest. HasTaken most script taken still rest)

-- the next line, or that there is none
abbrev pub TakesNext : List ℕ → Left → ℕ → Option Line → List ℕ → Left → ℕ → Type 0
TakesNext ahead left most line after now still = Moves ahead left after now (λ script rest. Takes most script line still rest)

-- The source lost a front of at most so many bytes.
abbrev pub Loses : ℕ → Left → Left → Type 0
Loses may left now = (was : List ℕ) → left ≡ Some was → (n : ℕ) × (n ≤ may) × (now ≡ Some (drop n was))

-- the line after those that were answered, where there is one
abbrev pub line_if : Option Line → List Line
line_if None = []
line_if (Some line) = line ∷ []
