-- Lines of a schedule: whose each one is, and what it says.
use Rattle.std.specs.Prelude.{◌≡◌, ◌⊎◌, ◌++◌, ℕ, Bool, List, ◌∷◌, IsTrue, decimal, nat_lt}
use Rattle.script_lines.specs.Lines.{Line, Short, Long}
use Rattle.script_lang.specs.LineWords.{words_of}
use Rattle.script_lang.specs.Reading.{Reading, Fails, Says, is_silent}
use Rattle.table_model.specs.declared.reply.Refusal.TheVariants as refusal
use Rattle.clients.specs.Names.{IsClient}

-- The line begins with the client's number and a space, and this follows.
abbrev pub IsOf : ℕ → List ℕ → List ℕ → Type 0
IsOf k line rest = IsClient k × (line ≡ decimal k ++ 32 ∷ rest)

-- It says nothing: it is blank or a comment, a client's number alone, or blank or a comment behind a client's number.
pub data IsQuiet (line : List ℕ) : Type 0 where
  silent : IsTrue (is_silent (words_of line)) → IsQuiet line
  alone : (k : ℕ) → IsClient k → line ≡ decimal k → IsQuiet line
  silent_of : (k : ℕ) (rest : List ℕ) → IsOf k line rest → IsTrue (is_silent (words_of rest)) → IsQuiet line

-- nothing, or what a client says; of a line whose client can't be read it is the client 0
pub data Turn : Type 0 where
  Quiet : Turn
  Said : ℕ → Reading → Turn

-- What stands behind the client's number and a space says this.
pub record IsSaid (line : List ℕ) (k : ℕ) (reading : Reading) : Type 0 where
  pub rest : List ℕ
  pub is_of : IsOf k line rest
  pub loud : IsTrue (is_silent (words_of rest)) → ⊥
  pub says : Says (words_of rest) reading

-- Its client can't be read.
pub record IsUnread (line : List ℕ) (k : ℕ) (reading : Reading) : Type 0 where
  pub client : k ≡ 0
  pub syntax : reading ≡ Fails refusal.Syntax
  pub loud : IsQuiet line → ⊥
  pub of_none : (j : ℕ) (rest : List ℕ) → IsOf j line rest → ⊥

-- The line is this turn. Each line is exactly one.
abbrev pub IsTurn : Line → Turn → Type 0
IsTurn Long turn = turn ≡ Said 0 (Fails refusal.LineLong)
IsTurn (Short line) Quiet = IsQuiet line
IsTurn (Short line) (Said k reading) = IsSaid line k reading ⊎ IsUnread line k reading

-- a byte that is no blank and begins no comment, as each byte of a command is
abbrev pub is_plain : ℕ → Bool
is_plain b = nat_lt 35 b
