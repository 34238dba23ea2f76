-- What the replies to a script come to.
use Rattle.std.specs.Prelude.{◌≡◌, ◌<◌, ◌^◌, ℕ, Bool, true, false, not, List, [], ◌∷◌, ◌++◌, length, codes, count_by, decimal}
use Rattle.std.specs.List.{flat_map}
use Rattle.hex.specs.Hex.{encode_lower}
use Rattle.sha2.specs.Hashers.{Holds256}
use Rattle.sha2.specs.Sha256.{sha256}
use Rattle.table_model.specs.declared.reply.Reply.{Reply}
use Rattle.table_model.specs.declared.reply.Reply.TheVariants as reply
use Rattle.script_replies.specs.ReplyText.{text_of}
use Rattle.generated.specs.declared.tally.Tally.{Tally}

abbrev pub is_refusal : Reply → Bool
is_refusal (reply.No why) = true
is_refusal _ = false

abbrev pub is_accepted : Reply → Bool
is_accepted told = not (is_refusal told)

abbrev pub accepted_in : List Reply → ℕ
accepted_in replies = count_by is_accepted replies

abbrev pub refused_in : List Reply → ℕ
refused_in replies = count_by is_refusal replies

-- their texts, one behind the other
abbrev pub transcript : List Reply → List ℕ
transcript replies = flat_map text_of replies

-- The line that `gen` sends: how many lines there were, how many of them were accepted and refused, and the hash of the texts of the replies.
unfoldable pub gen_line : List Reply → List ℕ
gen_line replies =
    codes "ok gen " ++ (decimal (length replies) ++ 32 ∷ (decimal (accepted_in replies) ++ 32 ∷ (decimal (refused_in replies) ++ 32 ∷
    (encode_lower (sha256 (transcript replies)) ++ 10 ∷ []))))

-- The tally is that of these replies, which are few enough to be counted.
pub record IsTallyOf (replies : List Reply) (tally : Tally) : Type 0 where
  pub few : length replies < 2 ^ 64
  pub accepted : tally.accepted ≡ accepted_in replies
  pub refused : tally.refused ≡ refused_in replies
  pub hashed : Holds256 tally.hasher (transcript replies)
