-- The lines that a generator has still to give.
use Rattle.std.specs.Prelude.{ℕ, ◌+◌, ◌-◌, List, [], ◌∷◌, ◌++◌, codes, drop}
use Rattle.generated.specs.Commands.{Basis, basis_after, line_for}
use Rattle.generated.specs.Script.{commands_from, head_lines, tail_lines}
use Rattle.generated.specs.declared.stage.Stage.{Stage}
use Rattle.generated.specs.declared.stage.Stage.TheVariants.{Head, Commit, Begin, Command, Tail, Over}

-- A command comes next, or what stands before it.
abbrev pub IsAtCommand : Stage → Type 0
IsAtCommand (Head line) = ⊥
IsAtCommand Commit = Unit {0}
IsAtCommand Begin = Unit {0}
IsAtCommand Command = Unit {0}
IsAtCommand (Tail line) = ⊥
IsAtCommand Over = ⊥

-- the command of that number, of so many, and all behind it
abbrev pub lines_on : ℕ → ℕ → Basis → List (List ℕ)
lines_on index count basis = line_for index basis ∷ (commands_from (count - (index + 1)) (index + 1) (basis_after basis) ++ tail_lines)

-- the lines from that place on, where the next command has that number
abbrev pub lines_at : Stage → ℕ → ℕ → Basis → List (List ℕ)
lines_at (Head line) index count basis = drop line.at head_lines ++ (commands_from (count - index) index basis ++ tail_lines)
lines_at Commit index count basis = codes "commit" ∷ codes "begin" ∷ lines_on index count basis
lines_at Begin index count basis = codes "begin" ∷ lines_on index count basis
lines_at Command index count basis = lines_on index count basis
lines_at (Tail line) index count basis = drop line.at tail_lines
lines_at Over index count basis = []
