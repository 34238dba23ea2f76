-- The generated script.
use Rattle.std.specs.Prelude.{ℕ, zero, suc, ◌+◌, ◌%◌, ◌==◌, ◌&&◌, nat_lt, if◌then◌else◌, List, [], ◌∷◌, ◌++◌, codes}
use Rattle.generated.specs.Commands.{Basis, basis_after, line_for}

-- the lines that make the objects
abbrev pub head_lines : List (List ℕ)
head_lines = codes "begin" ∷ codes "file gen" ∷ codes "create gen as @g0" ∷ codes "create gen as @g1" ∷ codes "create gen as @g2" ∷ codes "create gen as @g3" ∷ []

-- those at the end
abbrev pub tail_lines : List (List ℕ)
tail_lines = codes "digest @g0" ∷ codes "digest @g1" ∷ codes "digest @g2" ∷ codes "digest @g3" ∷ codes "space" ∷ codes "commit" ∷ []

-- Before each hundredth command, but the first, a transaction ends and another one begins.
abbrev pub breaks : ℕ → List (List ℕ)
breaks index = if nat_lt 0 index && (index % 100 == 0) then codes "commit" ∷ codes "begin" ∷ [] else []

-- the lines of so many commands, from that number on
abbrev pub commands_from : ℕ → ℕ → Basis → List (List ℕ)
commands_from zero index basis = []
commands_from (suc n) index basis = breaks index ++ line_for index basis ∷ commands_from n (index + 1) (basis_after basis)

-- the lines of a script of `count` commands
abbrev pub generated : ℕ → ℕ → List (List ℕ)
generated seed count = head_lines ++ (commands_from count 0 (record { state = seed; sizes = 0 ∷ 0 ∷ 0 ∷ 0 ∷ [] }) ++ tail_lines)
