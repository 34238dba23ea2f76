-- Words of a line of reply, one after the other.
use Rattle.std.specs.Prelude.{◌≡◌, ℕ, List, [], ◌∷◌, ◌++◌}
use Rattle.std.specs.List.{join_with_byte}
use Rattle.table_model.specs.declared.reply.Refusal.{Refusal}
use Rattle.script_replies.specs.ReplyText.{refusal_words}

-- a line of these words
abbrev pub line_of : List (List ℕ) → List ℕ
line_of words = join_with_byte 32 words ++ 10 ∷ []

-- words with a space before each
abbrev pub spaced : List (List ℕ) → List ℕ
spaced [] = []
spaced (w ∷ ws) = 32 ∷ w ++ spaced ws

abbrev pub first_two : List (List ℕ) → List (List ℕ)
first_two (a ∷ b ∷ ws) = a ∷ b ∷ []
first_two ws = ws

abbrev pub after_two : List (List ℕ) → List (List ℕ)
after_two (a ∷ b ∷ ws) = ws
after_two ws = []

-- a refusal's number and name
abbrev pub refusal_name : Refusal → List ℕ
refusal_name why = join_with_byte 32 (first_two (refusal_words why))

-- the words of its values
abbrev pub value_words : Refusal → List (List ℕ)
value_words why = after_two (refusal_words why)

-- The old bytes stand at the front of the new ones.
pub record IsFront (old new : List ℕ) : Type 0 where
  pub rest : List ℕ
  pub is : new ≡ old ++ rest
