-- The records of the log and their spelling.
use Rattle.std.specs.Prelude.{◌≡◌, ℕ, ◌+◌, ◌*◌, ◌<◌, ◌≤◌, ◌^◌, List, [], ◌∷◌, ◌++◌, length, map, Contains}
use Rattle.std.specs.List.{flat_map, AllByRecursion}
use Rattle.ex_base.specs.Fields.{field_bytes}
use Rattle.ex_base.specs.declared.geometry.Geometry.{Geometry}
use Rattle.ex_base.specs.declared.names.PageNo.{PageNo}
use Rattle.ex_base.specs.declared.names.OpNote.{OpNote}
use Rattle.ex_base.specs.NoteKinds.{kind_number}
use Rattle.ex_base.specs.Limits.{updates_most, touched_most}
use Rattle.ex_base.specs.Area.{catalog_no, InPageArea}
use Rattle.ex_base.specs.Order.{Rising}
use Rattle.op_log.specs.declared.record.LogRecord.{LogRecord}
use Rattle.op_log.specs.declared.kind.RecordKind.{RecordKind}
use Rattle.op_log.specs.Kinds.{number_of_kind, HasForm, form_bytes, form_len}
use Rattle.op_log.specs.Layout.{head_len, note_len, number_len}
use Rattle.page_entries.specs.declared.entry.PageEntry.{PageEntry}
use Rattle.page_entries.specs.Said.{AreFields}

-- ---- the spelling

abbrev pub note_bytes : OpNote → List ℕ
note_bytes note = (kind_number note.kind ∷ []) ++ field_bytes number_len note.oid.page.0 ++ field_bytes 2 note.oid.slot ++ field_bytes 8 note.oid.unique ++ field_bytes 8 note.first ++ field_bytes 8 note.second

-- an entry: its page, its form where the kind of its record has it, and its fields
abbrev pub entry_bytes : RecordKind → PageEntry → List ℕ
entry_bytes kind entry = field_bytes number_len entry.page.0 ++ (form_bytes kind entry.form ++ entry.fields)

abbrev pub number_bytes : PageNo → List ℕ
number_bytes page = field_bytes number_len page.0

abbrev pub entry_len : RecordKind → PageEntry → ℕ
entry_len kind entry = number_len + form_len kind + length entry.fields

-- the bytes that entries take
abbrev pub entries_len : RecordKind → List PageEntry → ℕ
entries_len kind [] = 0
entries_len kind (entry ∷ entries) = entry_len kind entry + entries_len kind entries

-- the length of a record, its gate included
abbrev pub record_len : LogRecord → ℕ
record_len r = 1 + head_len + note_len * length r.notes + entries_len r.kind r.pages + number_len * length r.freed

-- a record behind its gate: its kind, its length, its number, how many of each, and then each
unfoldable pub record_body : LogRecord → List ℕ
record_body r = (number_of_kind r.kind ∷ []) ++ field_bytes 4 (record_len r) ++ field_bytes 8 r.txn ++ field_bytes 2 (length r.notes) ++ field_bytes 2 (length r.pages) ++ field_bytes 2 (length r.freed)
    ++ flat_map note_bytes r.notes ++ flat_map (entry_bytes r.kind) r.pages ++ flat_map number_bytes r.freed

-- ---- what has a spelling

abbrev pub page_of : PageEntry → ℕ
page_of entry = entry.page.0

abbrev pub number_of : PageNo → ℕ
number_of page = page.0

-- an entry says something of a page of the page area, in a form that its record's kind has
pub record IsEntry (g : Geometry) (kind : RecordKind) (entry : PageEntry) : Type 0 where
  pub area : InPageArea g entry.page.0
  pub form : HasForm kind entry.form
  pub fields : AreFields g.page_size entry.form entry.fields

abbrev pub IsFreed : Geometry → PageNo → Type 0
IsFreed g page = InPageArea g page.0

-- Each field of a note fits its width.
pub record IsNote (note : OpNote) : Type 0 where
  pub page : note.oid.page.0 < 2 ^ 32
  pub slot : note.oid.slot < 2 ^ 16
  pub unique : note.oid.unique < 2 ^ 64
  pub first : note.first < 2 ^ 64
  pub second : note.second < 2 ^ 64

-- No page stands twice in a record, and its length fits its field. Each record has an entry of the catalog.
pub record IsLogRecord (g : Geometry) (r : LogRecord) : Type 0 where
  pub txn : r.txn < 2 ^ 64
  pub few_notes : length r.notes ≤ updates_most
  pub few_pages : length r.pages + length r.freed ≤ touched_most
  pub notes : AllByRecursion IsNote r.notes
  pub entries : AllByRecursion (IsEntry g r.kind) r.pages
  pub freed : AllByRecursion (IsFreed g) r.freed
  pub rising : Rising (map page_of r.pages)
  pub freed_rising : Rising (map number_of r.freed)
  pub apart : AllByRecursion (λ (page : PageNo). ¬ Contains (map page_of r.pages) page.0) r.freed
  pub catalog : Contains (map page_of r.pages) catalog_no
  pub short : record_len r < 2 ^ 32
