-- What a caller sees of a log.
use Rattle.std.specs.Prelude.{◌≡◌, ℕ, List, [], ◌∷◌, ◌++◌}
use Rattle.ex_base.specs.declared.geometry.Geometry.{Geometry}
use Rattle.op_log.specs.declared.record.LogRecord.{LogRecord}
use Rattle.op_log.specs.Log.{Follow, log_end}

-- its geometry, its end, and the number of the records that count
pub record LogState : Type 0 where
  pub geometry : Geometry
  pub end : ℕ
  pub count : ℕ

-- The log ends with these records, and this record's number is the next.
pub record Prolongs (log : LogState) (records : List LogRecord) (r : LogRecord) : Type 0 where
  pub at_end : log.end ≡ log_end records
  pub follow : Follow (records ++ r ∷ [])
