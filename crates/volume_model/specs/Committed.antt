-- The committed side of a volume: what its log and the overlay over its pages hold, and how a checkpoint and a commit change it.
use Rattle.std.specs.Prelude.{◌≡◌, ◌≢◌, ◌⊎◌, ℕ, ◌+◌, ◌≤◌, List, [], ◌∷◌, ◌++◌, length, map, Option, Some, None, Contains, nat_eq}
use Rattle.std.specs.List.{flat_map, AllByRecursion}
use Rattle.std.specs.Map.{lookup}
use Rattle.ex_base.specs.declared.names.OpNote.{OpNote}
use Rattle.ex_base.specs.declared.names.PageNo.{PageNo}
use Rattle.ex_base.specs.Area.{catalog_no, log_size}
use Rattle.ex_base.specs.Order.{Rising}
use Rattle.op_log.specs.AfterLog.{logged}
use Rattle.op_log.specs.Decoding.{NumberFollows, last_number}
use Rattle.op_log.specs.Log.{log_end}
use Rattle.op_log.specs.Records.{record_len}
use Rattle.op_log.specs.State.{LogState}
use Rattle.op_log.specs.declared.record.LogRecord.{LogRecord}
use Rattle.op_log.specs.declared.kind.RecordKind.TheVariants.{Forms}
use Rattle.page_entries.specs.declared.entry.PageEntry.{PageEntry}
use Rattle.page_entries.specs.EntryOf.{IsEntryOf}
use Rattle.trees.specs.Trees.{root_units}
use Rattle.volume_model.specs.Durable.{Agrees}
use Rattle.volume_model.specs.Homes.{home}
use Rattle.volume_model.specs.Parts.{Decodes, HoldsOf, StandsFor, content_parts}
use Rattle.volume_model.specs.Shown.{PageRow, WorkingRow, IsWorkingPage, working_units}
use Rattle.volume_model.specs.Volume.{Volume, Decoded, table_of, units_of, file_pages, roots_in, stored_in}

-- ---- what is committed

-- The overlay has just the pages that the log has, with their images; the log ends behind its last record.
pub record OverlayOf (d : Decoded) (log : LogState) (overlay : List PageRow) : Type 0 where
  pub just : (page : ℕ) → lookup (nat_eq page) overlay ≡ logged d.records page
  pub log_is : log ≡ record { geometry = d.geometry; end = log_end d.records; count = length d.records }

-- The disk decodes so, no image that a crash may leave differs where it matters, and log and overlay hold what the records say.
pub record Committed (may_leave : List ℕ → Type 0) (d : Decoded) (disk : List ℕ) (log : LogState) (overlay : List PageRow) : Type 0 where
  pub parts : Decodes disk d
  pub durable : (image : List ℕ) → may_leave image → Agrees d disk image
  pub shown : OverlayOf d log overlay

-- each image of the overlay is of the catalog or of a page of the volume's files
abbrev pub IsOverlayOf : Volume → List PageRow → Type 0
IsOverlayOf v overlay = AllByRecursion (λ (row : PageRow). (row.0 ≡ catalog_no) ⊎ Contains (file_pages v) row.0) overlay

-- a disk with these records, which decodes as this volume
abbrev pub with_records : Decoded → List LogRecord → Volume → Decoded
with_records d records v = record { geometry = d.geometry; records = records; volume = v }

-- the table that a disk which decodes so stands for
abbrev pub StandsForVolume : Decoded → List ℕ → List ℕ → Type 0
StandsForVolume d disk image = StandsFor image (table_of (units_of d disk) d.volume)

-- Each unit from the catalog's page on of which the log had no image stands at its home as it did.
abbrev pub HomesStay : Decoded → List ℕ → List ℕ → Type 0
HomesStay d disk later = (unit : ℕ) → catalog_no ≤ unit → logged d.records unit ≡ None → home d.geometry later unit ≡ home d.geometry disk unit

-- ---- a checkpoint

-- On the later disk, with these records, the volume is what it was: the same in each page after the log.
pub record SameAfterLog (d : Decoded) (disk : List ℕ) (records : List LogRecord) (later : List ℕ) : Type 0 where
  pub pages : (page : ℕ) → catalog_no ≤ page → units_of (with_records d records d.volume) later page ≡ units_of d disk page
  pub table : table_of (units_of (with_records d records d.volume) later) d.volume ≡ table_of (units_of d disk) d.volume

-- No record counts any more, and the volume is what it was. Units that the log didn't have are at home as before.
pub record Checkpointed (d : Decoded) (disk : List ℕ) (may_leave : List ℕ → Type 0) (later : List ℕ) (log : LogState) (overlay : List PageRow) : Type 0 where
  pub same : SameAfterLog d disk [] later
  pub committed : Committed may_leave (with_records d [] d.volume) later log overlay
  pub homes : HomesStay d disk later

-- ---- a commit

-- By the rule these are, in order, the entries of the working pages that have an image, where the pages so far are these.
abbrev pub AreEntries : (ℕ → Option (List ℕ)) → List WorkingRow → List PageEntry → Type 0
AreEntries so_far [] entries = entries ≡ []
AreEntries so_far ((page, None) ∷ rows) entries = AreEntries so_far rows entries
AreEntries so_far ((page, Some image) ∷ rows) [] = ⊥
AreEntries so_far ((page, Some image) ∷ rows) (entry ∷ entries) = IsEntryOf (record { 0 = page }) (so_far page) image entry × AreEntries so_far rows entries

-- the working pages that were given back
abbrev pub given_back : List WorkingRow → List PageNo
given_back [] = []
given_back ((page, None) ∷ rows) = record { 0 = page } ∷ given_back rows
given_back ((page, Some image) ∷ rows) = given_back rows

-- the record of a transaction, where the pages so far are these
pub record IsRecordOf (so_far : ℕ → Option (List ℕ)) (txn : ℕ) (notes : List OpNote) (rows : List WorkingRow) (r : LogRecord) : Type 0 where
  pub kind : r.kind ≡ Forms
  pub txn_is : r.txn ≡ txn
  pub notes_are : r.notes ≡ notes
  pub entries : AreEntries so_far rows r.pages
  pub freed : r.freed ≡ given_back rows

-- The working pages, laid over, decode as a volume that can be committed under this number: it is one more than that of the last record, where one
-- counts. Each image is of its catalog or of a page of its files, and none of these was given back; a page of the committed files that isn't one of them
-- was, and lies in none of its trees.
pub record MayCommit (d : Decoded) (disk : List ℕ) (rows : List WorkingRow) (txn : ℕ) (working : Volume) : Type 0 where
  pub follows : NumberFollows (last_number d.records) txn
  pub last : working.catalog.last ≡ txn
  pub parts : AllByRecursion (HoldsOf d.geometry [] (working_units d disk rows) working) content_parts
  pub images : AllByRecursion (IsWorkingPage working) rows
  pub kept : (page : ℕ) → Contains (catalog_no ∷ file_pages working) page → lookup (nat_eq page) rows ≢ Some None
  pub left : (page : ℕ) → Contains (file_pages d.volume) page → ¬ Contains (file_pages working) page → lookup (nat_eq page) rows ≡ Some None
  pub no_tree : (page : ℕ) → Contains (file_pages d.volume) page → ¬ Contains (flat_map (root_units (working_units d disk rows)) (roots_in (stored_in working))) page

-- The transaction gave the page back, and the log has an image of it: what stands at its home was replaced before, and nothing names it.
abbrev pub IsStale : Decoded → List WorkingRow → ℕ → Type 0
IsStale d rows page = (lookup (nat_eq page) rows ≡ Some None) × (logged d.records page ≢ None)

-- The log has no room for the transaction's record behind these records.
abbrev pub HasNoRoom : Decoded → List WorkingRow → ℕ → List OpNote → Type 0
HasNoRoom d rows txn notes = (r : LogRecord) → IsRecordOf (λ page. logged d.records page) txn notes rows r → log_size d.geometry ≤ log_end d.records + record_len r

-- The working volume is committed: the log ends with the transaction's record, by the rule over the records before it. Those are the old ones, or
-- none, which comes only where the record over the old ones has no room behind them. Units that the log didn't have are at home as before.
pub record CommittedAs (d : Decoded) (disk : List ℕ) (rows : List WorkingRow) (txn : ℕ) (notes : List OpNote) (working : Volume)
    (may_leave : List ℕ → Type 0) (later : List ℕ) (log : LogState) (overlay : List PageRow) : Type 0 where
  pub earlier : List LogRecord
  pub those : (earlier ≡ d.records) ⊎ (earlier ≡ [])
  pub made : LogRecord
  pub rule : IsRecordOf (λ page. logged earlier page) txn notes rows made
  pub anew : (earlier ≡ d.records → ⊥) → HasNoRoom d rows txn notes
  pub committed : Committed may_leave (with_records d (earlier ++ made ∷ []) working) later log overlay
  pub of_files : IsOverlayOf working overlay
  pub in_order : Rising (map (λ (row : PageRow). row.0) overlay)
  pub pages : (page : ℕ) → catalog_no ≤ page → ¬ IsStale d rows page → units_of (with_records d (earlier ++ made ∷ []) working) later page ≡ working_units d disk rows page
  pub table : table_of (units_of (with_records d (earlier ++ made ∷ []) working) later) working ≡ table_of (working_units d disk rows) working
  pub homes : HomesStay d disk later

-- During a commit an image stands for the committed table or for the working one.
abbrev pub StandsForEither : Decoded → List ℕ → List WorkingRow → Volume → List ℕ → Type 0
StandsForEither d disk rows working image = StandsForVolume d disk image ⊎ StandsFor image (table_of (working_units d disk rows) working)
