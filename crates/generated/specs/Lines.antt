-- What a generator gives, and what it has still to give.
use Rattle.std.specs.Prelude.{ℕ, List}
use Rattle.generated.specs.Commands.{Basis}
use Rattle.generated.specs.Coming.{lines_at}
use Rattle.generated.specs.declared.generator.Generator.{Generator}

abbrev pub basis_of : Generator → Basis
basis_of generator = record { state = generator.draws.state; sizes = generator.sizes }

-- the lines that it has still to make
abbrev pub to_come : Generator → List (List ℕ)
to_come generator = lines_at generator.stage generator.index generator.count (basis_of generator)

-- the line that it made last
abbrev pub line_taken : Generator → List ℕ
line_taken generator = generator.line.items
