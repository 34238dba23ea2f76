-- How far the script was made: from the first value of its talk to these, as exchanges were had.
use Rattle.std.specs.Prelude.{◌≡◌, ◌<◌, ◌+◌, ◌^◌, ℕ, IsTrue, Option, Some, None, List, [], ◌∷◌, ◌++◌, length, map}
use Rattle.std.specs.List.{AllZip}
use Rattle.table_model.specs.declared.reply.Reply.{Reply}
use Rattle.script_lines.specs.Lines.{Short}
use Rattle.script_lang.specs.LineWords.{words_of}
use Rattle.script_lang.specs.Reading.{Reading, Reads, is_silent}
use Rattle.talks.specs.Talking.{Exchange, Left}
use Rattle.generated.specs.Lines.{line_taken, to_come}
use Rattle.generated.specs.Replies.{IsTallyOf}
use Rattle.generated.specs.declared.talk.Generated.{Generated}

abbrev pub replies_of : List Exchange → List Reply
replies_of had = map (λ (exchange : Exchange). exchange.told) had

-- The line reads so, and nothing was sent for it.
pub record IsAnswer (line : List ℕ) (had : Exchange) : Type 0 where
  pub reads : Reads (Short line) had.reading
  pub text : had.text ≡ []

-- These lines were answered so, one by one.
abbrev pub Heard : List (List ℕ) → List Exchange → Type 0
Heard lines had = AllZip IsAnswer lines had

-- What the tally was of is followed by the replies that were had.
abbrev pub Tallies : Generated → List Exchange → Generated → Type 0
Tallies first had now = (before : List Reply) → IsTallyOf before first.tally → length before + length (to_come first.lines) < 2 ^ 64 → IsTallyOf (before ++ replies_of had) now.tally

-- the line behind those that were answered, where there is one
abbrev pub line_if : Option (List ℕ) → List (List ℕ)
line_if None = []
line_if (Some line) = line ∷ []

-- it, with what it asks for
abbrev pub LastAsks : Option (List ℕ) → Option Reading → Type 0
LastAsks None None = Unit {0}
LastAsks None (Some reading) = ⊥
LastAsks (Some line) None = ⊥
LastAsks (Some line) (Some reading) = Reads (Short line) reading

-- These lines are the first ones of those.
abbrev pub IsFrontOf : List (List ℕ) → List (List ℕ) → Type 0
IsFrontOf front whole = (rest : List (List ℕ)) × (whole ≡ front ++ rest)

-- The lines that were made are answered so.
pub record HasMade (first : Generated) (left : Left) (had : List Exchange) (now : Generated) (at : Left) : Type 0 where
  pub lines : List (List ℕ)
  pub made : to_come first.lines ≡ lines ++ to_come now.lines
  pub heard : Heard lines had
  pub tallied : Tallies first had now
  pub left_so : at ≡ left

-- One line more was made, which says something, and isn't answered yet.
pub record HasAsked (first : Generated) (left : Left) (had : List Exchange) (now : Generated) (at : Left) : Type 0 where
  pub lines : List (List ℕ)
  pub made : to_come first.lines ≡ lines ++ line_taken now.lines ∷ to_come now.lines
  pub spoken : IsTrue (is_silent (words_of (line_taken now.lines))) → ⊥
  pub heard : Heard lines had
  pub tallied : Tallies first had now
  pub left_so : at ≡ left

-- The script is at its end, and each line is answered.
pub record IsMade (first : Generated) (left : Left) (had : List Exchange) (now : Generated) (at : Left) : Type 0 where
  pub heard : Heard (to_come first.lines) had
  pub tallied : Tallies first had now
  pub left_so : at ≡ left

-- The first of these lines were answered so, and the one behind them, where it was made, asked for that and has no answer.
pub record HeardFront (script : List (List ℕ)) (had : List Exchange) (last : Option Reading) : Type 0 where
  pub lines : List (List ℕ)
  pub next : Option (List ℕ)
  pub asks : LastAsks next last
  pub front : IsFrontOf (lines ++ line_if next) script
  pub heard : Heard lines had

-- It ended early: all lines that were made are answered but perhaps the last one, which asked for that.
pub record IsCutOff (first : Generated) (left : Left) (had : List Exchange) (last : Option Reading) (at : Left) : Type 0 where
  pub heard : HeardFront (to_come first.lines) had last
  pub left_so : at ≡ left
