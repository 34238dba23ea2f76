-- A transaction has one record over given pages: where that has no room, none has.
use Rattle.std.proofs.Common.{◌≡◌, ◌≤◌, ◌<◌, ◌+◌, ◌*◌, ℕ, ⊎_elim, List, [], ◌∷◌, length, Option, Some, None, nat_eq, refl, sym, ap, subst, ◌∙◌, arith}
use Rattle.std.specs.Map.{lookup}
use Rattle.std.proofs.Math.Nat.{suc-mul}
use Rattle.std.proofs.lemmas.Bool.{cases_lt}
use Rattle.std.proofs.lemmas.List.Elements.{All-nil}
use Rattle.ex_base.specs.declared.geometry.Geometry.{Geometry}
use Rattle.ex_base.specs.declared.names.OpNote.{OpNote}
use Rattle.ex_base.specs.declared.names.PageNo.{PageNo}
use Rattle.ex_base.specs.Area.{log_size}
use Rattle.meta_pages.specs.Overlays.{Overlays, AreRows, IsPageRow, committed_image}
use Rattle.op_log.specs.AfterLog.{logged}
use Rattle.op_log.specs.Log.{log_end}
use Rattle.op_log.specs.Records.{record_len}
use Rattle.op_log.specs.State.{LogState}
use Rattle.op_log.specs.declared.kind.RecordKind.{RecordKind}
use Rattle.op_log.specs.declared.record.LogRecord.{LogRecord}
use Rattle.op_log.proofs.Applied.{Pages}
use Rattle.page_entries.specs.declared.entry.PageEntry.{PageEntry}
use Rattle.page_entries.specs.declared.form.EntryForm.{EntryForm}
use Rattle.page_entries.specs.declared.form.EntryForm.TheVariants.{Image, SlotChanges, FileChanges}
use Rattle.page_entries.specs.EntryOf.{IsEntryOf}
use Rattle.page_entries.specs.Said.{form_of, said_bytes, said_on}
use Rattle.page_entries.proofs.ReadAgain.{spelled_again}
use Rattle.page_entries.proofs.RuleLaws.{one_rule}
use Rattle.volume_model.specs.Committed.{AreEntries, Committed, HasNoRoom, IsRecordOf}
use Rattle.volume_model.specs.Shown.{PageRow, WorkingRow}
use Rattle.volume_model.specs.Volume.{Decoded}
use Rattle.commits.specs.Room.{IsLogged}
use Rattle.commits.proofs.LoggedPages.{record_as}

-- ---- one record

form_again : (form : EntryForm) (fields : List ℕ) → form_of (said_on form fields) ≡ form
unfolding said_on
form_again Image fields = refl
form_again SlotChanges fields = refl
form_again FileChanges fields = refl

abbrev entry_with : PageNo → EntryForm → List ℕ → PageEntry
entry_with page form fields = record { page = page; form = form; fields = fields }

same_entry : (a b : PageEntry) → a.page ≡ b.page → a.form ≡ b.form → a.fields ≡ b.fields → a ≡ b
same_entry a b page form fields =
    ap (λ (p : PageNo). entry_with p a.form a.fields) page ∙ ap (λ (f : EntryForm). entry_with b.page f a.fields) form ∙ ap (λ (l : List ℕ). entry_with b.page b.form l) fields

one_entry : (page : PageNo) (old : Option (List ℕ)) (new : List ℕ) (a b : PageEntry) → IsEntryOf page old new a → IsEntryOf page old new b → a ≡ b
one_entry page old new a b one two =
    let same = one_rule page.0 old new (said_on a.form a.fields) (said_on b.form b.fields) one.rule two.rule in
    same_entry a b (one.page_is ∙ sym two.page_is) (sym (form_again a.form a.fields) ∙ ap form_of same ∙ form_again b.form b.fields)
    (spelled_again (length new) a.form a.fields one.fields ∙ ap said_bytes same ∙ sym (spelled_again (length new) b.form b.fields two.fields))

one_list : (f : Pages) (rows : List WorkingRow) (xs ys : List PageEntry) → AreEntries f rows xs → AreEntries f rows ys → xs ≡ ys
one_list f [] xs ys one two = one ∙ sym two
one_list f ((page, None) ∷ rows) xs ys one two = one_list f rows xs ys one two
one_list f ((page, Some image) ∷ rows) [] ys one two = absurd one
one_list f ((page, Some image) ∷ rows) (x ∷ xs) [] one two = absurd two
one_list f ((page, Some image) ∷ rows) (x ∷ xs) (y ∷ ys) one two = ap (λ (e : PageEntry). e ∷ xs) (one_entry (record { 0 = page }) (f page) image x y one.0 two.0) ∙ ap (λ (l : List PageEntry). y ∷ l) (one_list f rows xs ys one.1 two.1)

abbrev record_with : RecordKind → ℕ → List OpNote → List PageEntry → List PageNo → LogRecord
record_with kind txn notes pages freed = record { kind = kind; txn = txn; notes = notes; pages = pages; freed = freed }

same_record : (a b : LogRecord) → a.kind ≡ b.kind → a.txn ≡ b.txn → a.notes ≡ b.notes → a.pages ≡ b.pages → a.freed ≡ b.freed → a ≡ b
same_record a b kind txn notes pages freed =
    ap (λ (k : RecordKind). record_with k a.txn a.notes a.pages a.freed) kind ∙ ap (λ (n : ℕ). record_with b.kind n a.notes a.pages a.freed) txn ∙ ap (λ (l : List OpNote). record_with b.kind b.txn l a.pages a.freed) notes
    ∙ ap (λ (l : List PageEntry). record_with b.kind b.txn b.notes l a.freed) pages ∙ ap (λ (l : List PageNo). record_with b.kind b.txn b.notes b.pages l) freed

pub one_record : (f : Pages) (txn : ℕ) (notes : List OpNote) (rows : List WorkingRow) (a b : LogRecord) → IsRecordOf f txn notes rows a → IsRecordOf f txn notes rows b → a ≡ b
one_record f txn notes rows a b one two =
    same_record a b (one.kind ∙ sym two.kind) (one.txn_is ∙ sym two.txn_is) (one.notes_are ∙ sym two.notes_are) (one_list f rows a.pages b.pages one.entries two.entries) (one.freed ∙ sym two.freed)

-- where this one has no room, none has
pub no_room : (d : Decoded) (disk : List ℕ) (log : LogState) (images : List ℕ → Type 0) (o : Overlays) (txn : ℕ) (notes : List OpNote) (r : LogRecord) → Committed images d disk log o.committed → IsRecordOf (committed_image o) txn notes o.working r
    → (log.end + record_len r < log_size log.geometry → ⊥) → HasNoRoom d o.working txn notes
no_room d disk log images o txn notes r committed of none other is =
    let same = one_record (λ page. logged d.records page) txn notes o.working r other (record_as (committed_image o) (λ page. logged d.records page) txn notes o.working r committed.shown.just of) is in
    let full = subst (λ (s : LogState). s.end + record_len r < log_size s.geometry → ⊥) committed.shown.log_is none in
    omega (arith, not_less (log_end d.records + record_len r) (log_size d.geometry) full, ap record_len same)
  where
    not_less : (m n : ℕ) → (m < n → ⊥) → n ≤ m
    not_less m n none = ⊎_elim (λ (lt : m < n). absurd (none lt)) (λ (le : n ≤ m). le) (cases_lt m n)

-- ---- once no record counts

pub none_committed : (log : LogState) (o : Overlays) → IsLogged log o → log.count ≡ 0 → o.committed ≡ []
none_committed log o is none = empty o.committed (omega (arith, is.images, is.none none))
  where
    empty : (rows : List PageRow) → length rows * (o.geometry.page_size + 4) ≤ 0 → rows ≡ []
    empty [] le = refl
    empty (row ∷ rows) le = absurd (omega (arith, le, suc-mul (length rows) (o.geometry.page_size + 4)))

rows_then : (o : Overlays) → AreRows o → AreRows (record { committed = []; working = o.working; geometry = o.geometry })
rows_then o are = record { rising = tt; working_rising = are.working_rising; pages = All-nil (IsPageRow o.geometry); working_pages = are.working_pages }

abbrev overlays_with : List PageRow → List WorkingRow → Geometry → Overlays
overlays_with committed working geometry = record { committed = committed; working = working; geometry = geometry }

emptied_as : (o now : Overlays) → now.committed ≡ [] → now.working ≡ o.working → now.geometry ≡ o.geometry → now ≡ record { committed = []; working = o.working; geometry = o.geometry }
emptied_as o now empty working geometry =
    ap (λ (l : List PageRow). overlays_with l now.working now.geometry) empty ∙ ap (λ (l : List WorkingRow). overlays_with [] l now.geometry) working ∙ ap (λ (g : Geometry). overlays_with [] o.working g) geometry

pub rows_emptied : (o now : Overlays) → AreRows o → now.committed ≡ [] → now.working ≡ o.working → now.geometry ≡ o.geometry → AreRows now
rows_emptied o now are empty working geometry = subst AreRows (sym (emptied_as o now empty working geometry)) (rows_then o are)

-- the record of images is the one over an empty overlay
pub over_none : (now : Overlays) (txn : ℕ) (notes : List OpNote) (rows : List WorkingRow) (r : LogRecord) → now.committed ≡ [] → IsRecordOf (λ page. None) txn notes rows r → IsRecordOf (committed_image now) txn notes rows r
over_none now txn notes rows r empty is = record_as (λ page. None) (committed_image now) txn notes rows r (λ page. sym (ap (lookup (nat_eq page)) empty)) is
