-- What a line says.
use Rattle.std.specs.Prelude.{ℕ, ◌≡◌, List, [], ◌∷◌, Bool, true, false, ◌==◌, IsTrue, IsFalse}
use Rattle.table_model.specs.declared.reply.Refusal.{Refusal}
use Rattle.table_model.specs.declared.reply.Refusal.TheVariants as refusal
use Rattle.table_model.specs.Requests.{Request}
use Rattle.script_lines.specs.Lines.{Line, Short, Long}
use Rattle.script_lang.specs.LineWords.{words_of}
use Rattle.script_lang.specs.Grammar.{spells, within}

-- nothing, a command, or why it is none
pub data Reading : Type 0 where
  Silent : Reading
  Asks : Request → Reading
  Fails : Refusal → Reading

abbrev pub is_comment : List ℕ → Bool
is_comment [] = false
is_comment (b ∷ bs) = b == 35

-- no words, or the first begins with #
abbrev pub is_silent : List (List ℕ) → Bool
is_silent [] = true
is_silent (word ∷ words) = is_comment word

-- The words say this. Words that spell no command are a fault of syntax.
abbrev pub Says : List (List ℕ) → Reading → Type 0
Says words Silent = IsTrue (is_silent words)
Says words (Asks r) = IsTrue (spells words r) × IsTrue (within r)
Says words (Fails refusal.DataLimit) = (r : Request) × IsTrue (spells words r) × IsFalse (within r)
Says words (Fails refusal.Syntax) = IsFalse (is_silent words) × ((r : Request) → IsFalse (spells words r))
Says words (Fails _) = ⊥

-- A line says this.
abbrev pub Reads : Line → Reading → Type 0
Reads (Short bytes) reading = Says (words_of bytes) reading
Reads Long reading = reading ≡ Fails refusal.LineLong
