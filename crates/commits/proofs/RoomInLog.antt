-- How much of the log a record and the committed images take.
use Rattle.std.proofs.Common.{◌∙◌, ◌≡◌, ◌≤◌, ◌<◌, ◌+◌, ◌*◌, ◌&&◌, ℕ, true, not, is_some, ⊎_elim, List, [], ◌∷◌, length, All, Option, Some, None, nat_eq, refl, sym, ap, subst, arith}
use Rattle.std.specs.List.{AllByRecursion}
use Rattle.std.specs.Map.{lookup}
use Rattle.std.proofs.lemmas.Bool.{cases_lt}
use Rattle.std.proofs.Math.Nat.{suc-mul, add-mul, mul-le-mul_right}
use Rattle.std.proofs.lemmas.Nat.{mul-le}
use Rattle.std.proofs.lemmas.List.Elements.{All-head, All-tail}
use Rattle.ex_base.specs.declared.geometry.Geometry.{Geometry}
use Rattle.ex_base.specs.declared.names.OpNote.{OpNote}
use Rattle.ex_base.specs.declared.names.PageNo.{PageNo}
use Rattle.ex_base.specs.Sizes.{least_page}
use Rattle.ex_base.proofs.Options.{some_apart}
use Rattle.meta_pages.specs.Overlays.{Overlays, AreRows, IsWorkingRow, images_most, committed_image}
use Rattle.meta_pages.specs.Rows.{kept_rows, fresh, named, ones}
use Rattle.meta_pages.proofs.Keeping.{kept_few}
use Rattle.op_log.specs.declared.record.LogRecord.{LogRecord}
use Rattle.op_log.specs.declared.kind.RecordKind.{RecordKind}
use Rattle.op_log.specs.declared.kind.RecordKind.TheVariants.{Forms}
use Rattle.op_log.specs.Records.{IsLogRecord, IsEntry, entries_len, record_len}
use Rattle.page_entries.specs.declared.entry.PageEntry.{PageEntry}
use Rattle.page_entries.specs.declared.form.EntryForm.{EntryForm}
use Rattle.page_entries.specs.declared.form.EntryForm.TheVariants.{Image, SlotChanges, FileChanges}
use Rattle.page_entries.specs.EntryOf.{IsEntryOf}
use Rattle.page_entries.specs.Rule.{ByRule, changed, whole}
use Rattle.page_entries.specs.Said.{Said, Whole, Slots, Files, AreFields, IsSaid, form_of, said_bytes, said_on}
use Rattle.page_entries.proofs.ReadAgain.{spelled_again}
use Rattle.page_entries.proofs.RuleLaws.{short_rule}
use Rattle.op_log.specs.State.{LogState}
use Rattle.op_log.proofs.Applied.{Pages}
use Rattle.volume_model.specs.Committed.{AreEntries, IsRecordOf}
use Rattle.volume_model.specs.Shown.{PageRow, WorkingRow}
use Rattle.commits.specs.Room.{IsLogged}

-- ---- at most

-- an entry takes no more than a page
entry_short : (page : PageNo) (old : Option (List ℕ)) (image : List ℕ) (e : PageEntry) → IsEntryOf page old image e → length e.fields ≤ length image
entry_short page old image e is = omega (arith, short_rule page.0 old image (said_on e.form e.fields) is.rule, ap length (spelled_again (length image) e.form e.fields is.fields))

pub entries_most : (g : Geometry) (f : Pages) (rows : List WorkingRow) (entries : List PageEntry) → All (IsWorkingRow g) rows → AreEntries f rows entries → entries_len Forms entries ≤ length entries * (g.page_size + 5)
entries_most g f [] entries all are = subst (λ (l : List PageEntry). entries_len Forms l ≤ length l * (g.page_size + 5)) (sym are) (omega arith)
entries_most g f ((page, None) ∷ rows) entries all are = entries_most g f rows entries (All-tail (IsWorkingRow g) (page, None) rows all) are
entries_most g f ((page, Some image) ∷ rows) [] all are = absurd are
entries_most g f ((page, Some image) ∷ rows) (e ∷ entries) all are = omega (
  arith,
  suc-mul (length entries) (g.page_size + 5),
  entries_most g f rows entries (All-tail (IsWorkingRow g) (page, Some image) rows all) are.1,
  entry_short (record { 0 = page }) (f page) image e are.0,
  (All-head (IsWorkingRow g) (page, Some image) rows all).1,
)

-- so a record always lies inside an empty log
pub record_room : (o : Overlays) (f : Pages) (txn : ℕ) (notes : List OpNote) (r : LogRecord) → AreRows o → IsRecordOf f txn notes o.working r → IsLogRecord o.geometry r → record_len r < 256 * o.geometry.page_size
record_room o f txn notes r are of is =
    let g = o.geometry in
    let most = mul-le (length r.pages) (g.page_size + 5) 128 (g.page_size + 5) (omega (arith, is.few_pages)) (omega arith) in
    let len : entries_len r.kind r.pages ≡ entries_len Forms r.pages = ap (λ (k : RecordKind). entries_len k r.pages) of.kind in
    omega (arith, len, entries_most g f o.working r.pages are.working_pages of.entries, most, is.few_notes, is.few_pages, least_page g)

-- ---- at least

rule_whole : (page : ℕ) (old : Option (List ℕ)) (new : List ℕ) (said : Said) → old ≡ None → ByRule page old new said → said ≡ Whole new
rule_whole page old new said none (changed before is differs short) = absurd (some_apart before (sym is ∙ none))
rule_whole page old new said none (whole says longer) = says

whole_form : (form : EntryForm) (fields new : List ℕ) → said_on form fields ≡ Whole new → form ≡ Image
unfolding said_on
whole_form Image fields new is = refl
whole_form SlotChanges fields new is = absurd (cc)
whole_form FileChanges fields new is = absurd (cc)

said_long : (size : ℕ) (fields : List ℕ) (said : Said) → IsSaid size said → form_of said ≡ Image → fields ≡ said_bytes said → length fields ≡ size
said_long size fields (Whole image) fits form is = ap length is ∙ fits
said_long size fields (Slots changes) fits form is = absurd cc
said_long size fields (Files next_unique last removed put) fits form is = absurd cc

image_long : (size : ℕ) (form : EntryForm) (fields : List ℕ) → form ≡ Image → AreFields size form fields → length fields ≡ size
image_long size form fields is says = said_long size fields says.0 says.1 (says.2 ∙ is) says.3

-- the entry of a page of which nothing is known has all of its bytes
first_long : (g : Geometry) (page : PageNo) (old : Option (List ℕ)) (image : List ℕ) (e : PageEntry) → old ≡ None → IsEntryOf page old image e → IsEntry g Forms e → length e.fields ≡ g.page_size
first_long g page old image e none of is = image_long g.page_size e.form e.fields (whole_form e.form e.fields image (rule_whole page.0 old image (said_on e.form e.fields) none of.rule)) is.fields

one_least : (g : Geometry) (page : ℕ) (o : Option (List ℕ)) (image : List ℕ) (e : PageEntry) (n len : ℕ) → IsEntryOf (record { 0 = page }) o image e → IsEntry g Forms e → n * (g.page_size + 4) ≤ len
    → (ones (true && not (is_some o)) + n) * (g.page_size + 4) ≤ length e.fields + 5 + len
one_least g page None image e n len of is rest = omega (arith, add-mul 1 n (g.page_size + 4), rest, first_long g (record { 0 = page }) None image e refl of is)
one_least g page (Some b) image e n len of is rest = omega (arith, add-mul 0 n (g.page_size + 4), rest)

pub fresh_least : (g : Geometry) (c : List PageRow) (rows : List WorkingRow) (entries : List PageEntry) → AreEntries (λ page. lookup (nat_eq page) c) rows entries → AllByRecursion (IsEntry g Forms) entries
    → fresh c rows * (g.page_size + 4) ≤ entries_len Forms entries
fresh_least g c [] entries are each = omega arith
fresh_least g c ((page, None) ∷ rows) entries are each = subst (λ (n : ℕ). n * (g.page_size + 4) ≤ entries_len Forms entries) (omega arith) (fresh_least g c rows entries are each)
fresh_least g c ((page, Some image) ∷ rows) [] are each = absurd are
fresh_least g c ((page, Some image) ∷ rows) (e ∷ entries) are each =
    let rest = fresh_least g c rows entries are.1 each.1 in
    subst (λ (n : ℕ). fresh c ((page, Some image) ∷ rows) * (g.page_size + 4) ≤ n) (omega arith) (one_least g page (lookup (nat_eq page) c) image e (fresh c rows) (entries_len Forms entries) are.0 each.0 rest)

-- ---- what the overlay takes

module _ (log : LogState) (o : Overlays) (txn : ℕ) (notes : List OpNote) (r : LogRecord) (geometry : log.geometry ≡ o.geometry) (logged : IsLogged log o) (is : IsLogRecord log.geometry r) (of : IsRecordOf (committed_image o) txn notes o.working r) where
  both : named o.committed o.working * (o.geometry.page_size + 4) ≤ log.end + record_len r
  both =
      let valid : IsLogRecord o.geometry r = subst (λ (g : Geometry). IsLogRecord g r) geometry is in
      let each : AllByRecursion (IsEntry o.geometry Forms) r.pages = subst (λ (k : RecordKind). AllByRecursion (IsEntry o.geometry k) r.pages) of.kind valid.entries in
      let len : entries_len r.kind r.pages ≡ entries_len Forms r.pages = ap (λ (k : RecordKind). entries_len k r.pages) of.kind in
      omega (arith, add-mul (length o.committed) (fresh o.committed o.working) (o.geometry.page_size + 4), logged.images, fresh_least o.geometry o.committed o.working r.pages of.entries each, len)

  -- there is room for the images that the transaction adds
  pub few_named : log.end + record_len r < 256 * log.geometry.page_size → named o.committed o.working ≤ images_most
  few_named fits = ⊎_elim (λ (over : images_most < named o.committed o.working).
      absurd (omega (
        arith,
        both,
        fits,
        ap (λ (g : Geometry). g.page_size) geometry,
        mul-le-mul_right {m = 257} {n = named o.committed o.working} (o.geometry.page_size + 4) (omega (arith, over)),
      )))
      (λ within. within) (cases_lt images_most (named o.committed o.working))

  pub logged_then : AreRows o → (log' : LogState) (o' : Overlays) → log' ≡ record log { end = log.end + record_len r; count = log.count + 1 } → o' ≡ record o { committed = kept_rows o.committed o.working; working = [] } → IsLogged log' o'
  logged_then are log' o' counts kept = record {
    images =
        let rows = ap (λ (x : Overlays). length x.committed * (x.geometry.page_size + 4)) kept in
        let few = mul-le-mul_right {m = length (kept_rows o.committed o.working)} {n = named o.committed o.working} (o.geometry.page_size + 4) (kept_few o.committed o.working are.rising are.working_rising) in
        omega (arith, rows, few, both, ap (λ (s : LogState). s.end) counts);
    none = λ no. absurd (omega (arith, no, ap (λ (s : LogState). s.count) counts));
  }
