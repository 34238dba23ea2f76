-- How a record is read: its shape, and what a record must keep beside.
use Rattle.std.specs.Prelude.{◌≡◌, ℕ, ◌+◌, ◌*◌, ◌-◌, ◌<◌, ◌≤◌, ◌^◌, List, [], ◌∷◌, ◌++◌, length, map, take, drop, slice_index, Option, Some, None, Contains}
use Rattle.std.specs.List.{flat_map, AllByRecursion}
use Rattle.ex_base.specs.declared.geometry.Geometry.{Geometry}
use Rattle.ex_base.specs.declared.names.PageNo.{PageNo}
use Rattle.ex_base.specs.Bytes.{part}
use Rattle.ex_base.specs.Limits.{updates_most, touched_most}
use Rattle.ex_base.specs.Fields.{number_at}
use Rattle.op_log.specs.declared.decoding.Head.{Head}
use Rattle.op_log.specs.declared.record.LogRecord.{LogRecord}
use Rattle.op_log.specs.declared.kind.RecordKind.{RecordKind}
use Rattle.op_log.specs.Kinds.{number_of_kind, HasForm, form_bytes, form_len}
use Rattle.op_log.specs.Layout.{open_gate, head_len, note_len}
use Rattle.op_log.specs.Records.{entry_bytes, entry_len, entries_len, record_len, record_body, IsNote, IsLogRecord, page_of}
use Rattle.page_entries.specs.declared.entry.PageEntry.{PageEntry}
use Rattle.page_entries.specs.declared.form.EntryForm.{EntryForm}
use Rattle.page_entries.specs.Said.{AreFields}
use Rattle.op_log.specs.Log.{Follow, open_records, log_end}

-- ---- fields that fit their widths

-- the page number of an entry fits its width, and its fields say something
pub record FitsEntry (size : ℕ) (kind : RecordKind) (entry : PageEntry) : Type 0 where
  pub page : entry.page.0 < 2 ^ 32
  pub form : HasForm kind entry.form
  pub fields : AreFields size entry.form entry.fields

-- a page number fits its width
abbrev pub FitsNumber : PageNo → Type 0
FitsNumber page = page.0 < 2 ^ 32

-- the shape of a record: each field fits its width, and no count is above its limit
pub record Shaped (g : Geometry) (r : LogRecord) : Type 0 where
  pub txn : r.txn < 2 ^ 64
  pub few_notes : length r.notes ≤ updates_most
  pub few_pages : length r.pages + length r.freed ≤ touched_most
  pub notes : AllByRecursion IsNote r.notes
  pub entries : AllByRecursion (FitsEntry g.page_size r.kind) r.pages
  pub freed : AllByRecursion FitsNumber r.freed
  pub short : record_len r < 2 ^ 32

-- these items, of one width each, stand in the bytes from a place on
pub record Reads {A : Type 0} (Fits : A → Type 0) (spell : A → List ℕ) (bytes : List ℕ) (start width count : ℕ) (items : List A) : Type 0 where
  pub many : length items ≡ count
  pub spelled : flat_map spell items ≡ part bytes start (width * count)
  pub each : AllByRecursion Fits items

-- no such items stand there
abbrev pub NoneRead : {A : Type 0} → (A → Type 0) → (A → List ℕ) → List ℕ → ℕ → ℕ → ℕ → Type 0
NoneRead {A} Fits spell bytes start width count = (items : List A) → Reads Fits spell bytes start width count items → ⊥

-- ---- entries, each of which tells where it ends

-- the bytes begin with what stands for this form
pub record BeginsForm (kind : RecordKind) (bytes : List ℕ) (form : EntryForm) : Type 0 where
  pub has : HasForm kind form
  pub spelled : bytes ≡ form_bytes kind form ++ drop (form_len kind) bytes

-- the bytes begin with what stands for no form
abbrev pub NoForm : RecordKind → List ℕ → Type 0
NoForm kind bytes = (form : EntryForm) (rest : List ℕ) → HasForm kind form → bytes ≡ form_bytes kind form ++ rest → ⊥

-- the bytes begin with this entry
pub record BeginsEntry (size : ℕ) (kind : RecordKind) (bytes : List ℕ) (entry : PageEntry) : Type 0 where
  pub fits : FitsEntry size kind entry
  pub inside : entry_len kind entry ≤ length bytes
  pub spelled : bytes ≡ entry_bytes kind entry ++ drop (entry_len kind entry) bytes

-- the bytes begin with no entry
abbrev pub NoEntry : ℕ → RecordKind → List ℕ → Type 0
NoEntry size kind bytes = (entry : PageEntry) (rest : List ℕ) → FitsEntry size kind entry → bytes ≡ entry_bytes kind entry ++ rest → ⊥

-- so many entries stand in the bytes from a place on, up to an end
pub record ReadsEntries (size : ℕ) (kind : RecordKind) (bytes : List ℕ) (start count end : ℕ) (entries : List PageEntry) : Type 0 where
  pub many : length entries ≡ count
  pub each : AllByRecursion (FitsEntry size kind) entries
  pub end_is : end ≡ start + entries_len kind entries
  pub inside : end ≤ length bytes
  pub spelled : drop start bytes ≡ flat_map (entry_bytes kind) entries ++ drop end bytes

-- fewer entries stand there
abbrev pub NoEntries : ℕ → RecordKind → List ℕ → ℕ → ℕ → Type 0
NoEntries size kind bytes start count = (entries : List PageEntry) (rest : List ℕ) → length entries ≡ count → AllByRecursion (FitsEntry size kind) entries
    → drop start bytes ≡ flat_map (entry_bytes kind) entries ++ rest → ⊥

-- ---- what a record keeps beside

-- Each number is above the one before and below the end.
abbrev pub RisesIn : ℕ → ℕ → List ℕ → Type 0
RisesIn before end [] = Unit {0}
RisesIn before end (x ∷ xs) = (before < x) × (x < end) × RisesIn x end xs

-- a freed page of which no entry is
abbrev pub IsApart : List PageEntry → PageNo → Type 0
IsApart entries page = ¬ Contains (map page_of entries) page.0

-- a number after the last one, where there is one
abbrev pub NumberFollows : Option ℕ → ℕ → Type 0
NumberFollows None txn = Unit {0}
NumberFollows (Some before) txn = txn ≡ before + 1

-- the number of the last record, where there is one
abbrev pub last_number : List LogRecord → Option ℕ
last_number [] = None
last_number (r ∷ []) = Some r.txn
last_number (r ∷ next ∷ rs) = last_number (next ∷ rs)

-- ---- one record, and where there is none

-- The bytes begin with this head of a record, and they are long enough for it.
pub record HasHead (bytes : List ℕ) (head : Head) : Type 0 where
  pub kind : slice_index bytes 0 ≡ number_of_kind head.kind
  pub len : head.len ≡ number_at 4 bytes 1
  pub txn : head.txn ≡ number_at 8 bytes 5
  pub notes : head.notes ≡ number_at 2 bytes 13
  pub pages : head.pages ≡ number_at 2 bytes 15
  pub freed : head.freed ≡ number_at 2 bytes 17
  pub small : head.txn < 2 ^ 64
  pub short : head.len < 2 ^ 32
  pub few_notes : head.notes ≤ updates_most
  pub few_pages : head.pages + head.freed ≤ touched_most
  pub room : head_len + note_len * head.notes ≤ head.len
  pub long : head.len ≤ length bytes

-- The bytes begin with a record behind its gate, and one byte follows.
pub record Begins (g : Geometry) (bytes : List ℕ) (r : LogRecord) : Type 0 where
  pub is_record : IsLogRecord g r
  pub long : record_len r ≤ length bytes
  pub spelled : take (record_len r - 1) bytes ≡ record_body r

-- The bytes begin with no record.
abbrev pub NoRecord : Geometry → List ℕ → Type 0
NoRecord g bytes = (r : LogRecord) → Begins g bytes r → ⊥

-- At this offset, the end of these records, a gate stands open, and no record follows.
pub record IsBadAt (g : Geometry) (log : List ℕ) (at : ℕ) : Type 0 where
  pub records : List LogRecord
  pub each : AllByRecursion (IsLogRecord g) records
  pub follow : Follow records
  pub at_is : at ≡ log_end records
  pub behind : List ℕ
  pub spelled : log ≡ open_records records ++ open_gate ∷ behind
  pub none : (r : LogRecord) → Follow (records ++ r ∷ []) → Begins g behind r → ⊥
