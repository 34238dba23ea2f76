-- The steps of a commit.
use Rattle.std.specs.Prelude.{◌≡◌, ◌⊎◌, ℕ, List, []}
use Rattle.ex_base.specs.declared.names.OpNote.{OpNote}
use Rattle.op_log.specs.declared.record.LogRecord.{LogRecord}
use Rattle.op_log.specs.State.{LogState}
use Rattle.volume_model.specs.Committed.{Committed, HasNoRoom, IsOverlayOf, SameAfterLog, with_records}
use Rattle.volume_model.specs.Shown.{PageRow, WorkingRow}
use Rattle.volume_model.specs.Volume.{Decoded}

-- The log has room for the record of a transaction: it has its records still, or none, which comes only where the record over its records has no room
-- behind them. The volume is what it was.
pub record HasRoom (d : Decoded) (disk : List ℕ) (rows : List WorkingRow) (txn : ℕ) (notes : List OpNote) (before : List PageRow)
    (may_leave : List ℕ → Type 0) (later : List ℕ) (log : LogState) (overlay : List PageRow) : Type 0 where
  pub records : List LogRecord
  pub those : (records ≡ d.records) ⊎ (records ≡ [])
  pub anew : (records ≡ d.records → ⊥) → HasNoRoom d rows txn notes
  pub same : SameAfterLog d disk records later
  pub committed : Committed may_leave (with_records d records d.volume) later log overlay
  pub of_files : IsOverlayOf d.volume before → IsOverlayOf d.volume overlay
