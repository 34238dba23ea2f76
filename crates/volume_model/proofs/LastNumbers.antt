-- The number of the last record of a log.
use Rattle.std.proofs.Common.{◌≡◌, ◌+◌, ◌∙◌, ℕ, List, [], ◌∷◌, ap}
use Rattle.op_log.specs.declared.record.LogRecord.{LogRecord}
use Rattle.op_log.specs.Decoding.{NumberFollows, last_number}
use Rattle.volume_model.specs.Parts.{IsLastOf}

-- One more than the last number follows it.
pub next_follows : (rs : List LogRecord) (last txn : ℕ) → IsLastOf rs last → txn ≡ last + 1 → NumberFollows (last_number rs) txn
next_follows [] last txn is next = tt
next_follows (r ∷ []) last txn is next = next ∙ ap (λ (n : ℕ). n + 1) is
next_follows (r ∷ s ∷ rs) last txn is next = next_follows (s ∷ rs) last txn is next
