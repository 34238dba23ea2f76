-- What the lines of a script ask for, and what answers them.
use Rattle.std.specs.Prelude.{◌≡◌, ◌⊎◌, Option, Some, None, List, [], ◌∷◌}
use Rattle.script_lines.specs.Lines.{Line}
use Rattle.script_lang.specs.Reading.{Reading, Silent, Reads}
use Rattle.script_replies.specs.ReplyText.{text_of}
use Rattle.talks.specs.Talking.{Exchange}

-- The line reads so, and the text that was sent for it is that of its reply.
pub record IsAnswer (line : Line) (had : Exchange) : Type 0 where
  pub reads : Reads line had.reading
  pub text : had.text ≡ text_of had.told

-- The lines say nothing but what these exchanges read, in order.
abbrev pub Heard : List Line → List Exchange → Type 0
Heard [] had = had ≡ []
Heard (line ∷ lines) had =
    (Reads line Silent × Heard lines had)
    ⊎ ((first : Exchange) × (rest : List Exchange) × (had ≡ first ∷ rest) × IsAnswer line first × Heard lines rest)

-- what the line that was taken last asks for; nothing, where there is none
abbrev pub AsksOf : Option Line → Reading → Type 0
AsksOf None reading = reading ≡ Silent
AsksOf (Some line) reading = Reads line reading

-- the line that has no answer yet, with what it asks for
abbrev pub LastAsks : Option Line → Option Reading → Type 0
LastAsks None None = Unit {0}
LastAsks None (Some reading) = ⊥
LastAsks (Some line) None = ⊥
LastAsks (Some line) (Some reading) = Reads line reading
