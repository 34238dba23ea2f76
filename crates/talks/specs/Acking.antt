-- How what was sent bears on the commits whose table a stop may leave.
use Rattle.std.specs.Prelude.{◌≡◌, ◌<◌, ℕ, ◌+◌, ◌^◌, List, [], ◌++◌, length, take}
use Rattle.table_model.specs.declared.reply.Reply.{Reply}
use Rattle.table_model.specs.declared.reply.Reply.TheVariants as reply

-- a reply that is no commit's
abbrev pub IsNoCommit : Reply → Type 0
IsNoCommit told = (k : ℕ) → told ≡ reply.Commit k → ⊥

-- What a way of sending replies acknowledges, and the laws that it keeps. The first number is that of the last commit before the run.
pub record Acking : Type 1 where
  -- This text tells the reply.
  pub Tells : Reply → List ℕ → Type 0
  -- What was sent is whole replies, and acknowledges the commits up to this number, from the first on, and no more.
  pub Even : ℕ → List ℕ → ℕ → Type 0
  -- When this was sent a stop may leave the table of this commit.
  pub May : ℕ → List ℕ → ℕ → Type 0
  pub start : (first : ℕ) → Even first [] first
  -- A stop may leave the last commit that was acknowledged, and the next one,
  pub now : (first : ℕ) (sent : List ℕ) (j : ℕ) → Even first sent j → May first sent j
  pub next : (first : ℕ) (sent : List ℕ) (j : ℕ) → Even first sent j → May first sent (j + 1)
  -- also while a reply is sent, but not yet whole.
  pub front : (first : ℕ) (sent : List ℕ) (j n : ℕ) (told : Reply) (text : List ℕ) → Even first sent j → Tells told text → n < length text
      → May first (sent ++ take n text) j
  pub front_next : (first : ℕ) (sent : List ℕ) (j n : ℕ) (told : Reply) (text : List ℕ) → Even first sent j → Tells told text → n < length text
      → May first (sent ++ take n text) (j + 1)
  -- A reply that was sent whole acknowledges its commit, and no other one anything.
  pub other : (first : ℕ) (sent : List ℕ) (j : ℕ) (told : Reply) (text : List ℕ) → Even first sent j → Tells told text → IsNoCommit told
      → Even first (sent ++ text) j
  pub commit : (first : ℕ) (sent : List ℕ) (j : ℕ) (text : List ℕ) → Even first sent j → Tells (reply.Commit (j + 1)) text → j + 1 < 2 ^ 64
      → Even first (sent ++ text) (j + 1)
