-- What the lines of a schedule ask for, and what answers them.
use Rattle.std.specs.Prelude.{◌≡◌, ◌⊎◌, ℕ, Option, Some, None, List, [], ◌∷◌}
use Rattle.script_lines.specs.Lines.{Line}
use Rattle.script_lang.specs.Reading.{Reading}
use Rattle.talks.specs.Talking.{Exchange}
use Rattle.clients.specs.Routing.{ClientStep, routed}
use Rattle.clients.specs.Turns.{IsTurn, Quiet, Said}

-- The line is what a client says, and the first of these exchanges answers it.
pub record IsAnswered (owner : Option ℕ) (line : Line) (had : List Exchange) (after : Option ℕ) (rest : List Exchange) : Type 0 where
  pub client : ℕ
  pub reading : Reading
  pub turn : IsTurn line (Said client reading)
  pub first : Exchange
  pub had_is : had ≡ first ∷ rest
  pub step : ClientStep owner client reading first after

-- The lines say nothing but what these exchanges answer, in order, from whose transaction was open to whose is.
abbrev pub Heard : Option ℕ → List Line → List Exchange → Option ℕ → Type 0
Heard owner [] had now = (had ≡ []) × (now ≡ owner)
Heard owner (line ∷ lines) had now =
    (IsTurn line Quiet × Heard owner lines had now)
    ⊎ ((after : Option ℕ) × (rest : List Exchange) × IsAnswered owner line had after rest × Heard after lines rest now)

-- What a line that has no answer yet asks the session for, and whose it is.
abbrev pub IsRouted : Option ℕ → ℕ → Line → Reading → Type 0
IsRouted owner client line reading = (said : Reading) × IsTurn line (Said client said) × (reading ≡ routed owner client said)

-- the line that has no answer yet, with what it asks for
abbrev pub LastAsks : Option ℕ → ℕ → Option Line → Option Reading → Type 0
LastAsks owner client None None = Unit {0}
LastAsks owner client None (Some reading) = ⊥
LastAsks owner client (Some line) None = ⊥
LastAsks owner client (Some line) (Some reading) = IsRouted owner client line reading
