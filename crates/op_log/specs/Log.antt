-- What the log says: its records, by the gates.
use Rattle.std.specs.Prelude.{◌≡◌, ◌≢◌, ◌⊎◌, ℕ, ◌+◌, ◌*◌, ◌<◌, ◌≤◌, List, [], ◌∷◌, ◌++◌, Some, IsTrue}
use Rattle.std.specs.List.{AllByRecursion}
use Rattle.ex_base.specs.declared.geometry.Geometry.{Geometry}
use Rattle.ex_base.specs.Area.{catalog_no, log_at, log_size}
use Rattle.disk_model.specs.Outside.{Outside}
use Rattle.disk_model.specs.Changes.{AgreesOn, InRange, SameBut}
use Rattle.op_log.specs.declared.record.LogRecord.{LogRecord}
use Rattle.op_log.specs.Layout.{open_gate, closed_gate}
use Rattle.op_log.specs.Records.{IsLogRecord, record_body, record_len}

-- Each number is one more than the one before.
abbrev pub Follow : List LogRecord → Type 0
Follow [] = Unit {0}
Follow (r ∷ []) = Unit {0}
Follow (r ∷ next ∷ rs) = (next.txn ≡ r.txn + 1) × Follow (next ∷ rs)

-- open gates, each with its record behind it
abbrev pub open_records : List LogRecord → List ℕ
open_records [] = []
open_records (r ∷ rs) = (open_gate ∷ record_body r) ++ open_records rs

-- The string of the log begins with these records behind open gates, and a closed gate stands behind them. Where an open gate is followed
-- by no record, there is no such list.
pub record LogSpells (g : Geometry) (log : List ℕ) (records : List LogRecord) : Type 0 where
  pub each : AllByRecursion (IsLogRecord g) records
  pub follow : Follow records
  pub gate : ℕ
  pub rest : List ℕ
  pub closed : gate ≢ open_gate
  pub spelled : log ≡ open_records records ++ gate ∷ rest

-- the offset of the closed gate
abbrev pub log_end : List LogRecord → ℕ
log_end [] = 0
log_end (r ∷ rs) = record_len r + log_end rs

-- what the disk's log says
abbrev pub SaysLog : Geometry → List LogRecord → List ℕ → Type 0
SaysLog g records disk = LogSpells g (log_at g disk) records

-- the same list, or this one
abbrev pub SaysEither : Geometry → List LogRecord → List LogRecord → List ℕ → Type 0
SaysEither g old new disk = SaysLog g old disk ⊎ SaysLog g new disk

-- While a record is added in these places of a disk, an image that a crash leaves is one of before, changed there at most, and says the old list; or
-- it is the disk as it was held, changed there at most, and says the list with the record: then all else was settled.
abbrev pub AddsHere : Geometry → List LogRecord → LogRecord → (ℕ → Type 0) → (List ℕ → Type 0) → List ℕ → List ℕ → Type 0
AddsHere g records r places before held image =
    ((x : List ℕ) × before x × SameBut places x image × SaysLog g records image) ⊎ (SameBut places held image × SaysLog g (records ++ r ∷ []) image)

-- The disk is long enough for the log, which stands behind one page.
abbrev pub HasLog : Geometry → Outside → Type 0
HasLog g w = catalog_no * g.page_size ≤ w.size

-- The disk tells what it holds, and its log says these records.
pub record DiskSays (g : Geometry) (w : Outside) (records : List LogRecord) : Type 0 where
  pub disk : List ℕ
  pub holds : w.disk ≡ Some disk
  pub says : SaysLog g records disk

-- An honest disk says these records, and a crash leaves them: each image agrees with the disk on the log up to and including the gate at
-- its end.
pub record KeepsLog (g : Geometry) (w : Outside) (records : List LogRecord) : Type 0 where
  pub honest : IsTrue w.honest
  pub on_disk : DiskSays g w records
  pub agrees : AgreesOn (InRange g.page_size (log_end records + 1)) w

-- These bytes are those of the record behind its gate, with a closed gate behind it; the gate at this byte of the disk stands at the end of the
-- records; the record is the next of the log, and there is room for it.
pub record Adding (g : Geometry) (records : List LogRecord) (r : LogRecord) (gate : ℕ) (bytes : List ℕ) : Type 0 where
  pub gate_is : gate ≡ g.page_size + log_end records
  pub bytes_are : bytes ≡ record_body r ++ closed_gate ∷ []
  pub fits : log_end records + record_len r < log_size g
  pub is_record : IsLogRecord g r
  pub follow : Follow (records ++ r ∷ [])
