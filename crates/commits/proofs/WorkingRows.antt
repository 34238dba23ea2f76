-- The working pages as a record of the log.
use Rattle.std.proofs.Common.{◌≡◌, ◌≢◌, ◌≤◌, ◌<◌, ◌+◌, ◌^◌, ℕ, Bool, true, false, cond, ⊎_elim, List, [], ◌∷◌, ◌++◌, length, take, All, Some, None, nat_eq, refl, sym, ap, subst, ◌∙◌, append-nil, arith}
use Rattle.std.specs.Prelude.{map, Contains, slice_get}
use Rattle.std.specs.List.{AllByRecursion, AllZip}
use Rattle.std.specs.Map.{lookup}
use Rattle.std.proofs.lemmas.Bool.Decides.{eqb_tells}
use Rattle.std.proofs.lemmas.List.{take_more, take_all, length-map}
use Rattle.std.proofs.lemmas.Option.{slice_get_within, get_or_from_slice_get}
use Rattle.std.proofs.lemmas.List.Elements.{All-head, All-tail}
use Rattle.lru.proofs.Splits.{Contains-head, Contains-tail, Contains-cons, Contains-nil}
use Rattle.ex_base.specs.declared.geometry.Geometry.{Geometry}
use Rattle.ex_base.specs.declared.names.PageNo.{PageNo}
use Rattle.ex_base.specs.declared.names.OpNote.{OpNote}
use Rattle.ex_base.specs.Area.{catalog_no, InPageArea}
use Rattle.ex_base.specs.Order.{Rising}
use Rattle.meta_pages.specs.Entries.{imaged, IsEntryAt}
use Rattle.meta_pages.specs.Overlays.{AreRows, IsWorkingRow, Overlays, committed_image}
use Rattle.meta_pages.specs.Rows.{IsAbove, IsRising}
use Rattle.op_log.specs.Records.{IsLogRecord, IsEntry, IsFreed, IsNote, page_of, number_of, record_len}
use Rattle.op_log.specs.declared.kind.RecordKind.TheVariants.{Forms}
use Rattle.op_log.specs.declared.record.LogRecord.{LogRecord}
use Rattle.op_log.proofs.Applied.{Pages}
use Rattle.page_entries.specs.declared.entry.PageEntry.{PageEntry}
use Rattle.page_entries.specs.EntryOf.{IsEntryOf}
use Rattle.page_entries.specs.Said.{AreFields}
use Rattle.std.proofs.lemmas.Nat.{mul-le}
use Rattle.ex_base.specs.Limits.{page_size_most, touched_most, updates_most}
use Rattle.commits.proofs.RoomInLog.{entries_most}
use Rattle.volume_model.specs.Committed.{AreEntries, IsRecordOf, given_back}
use Rattle.volume_model.specs.Shown.{WorkingRow}
use Rattle.commits.specs.Room.{HasCatalog}

-- ---- one row more

take_row : {A : Type 0} (rows : List A) (i : ℕ) (row : A) → slice_get rows i ≡ Some row → take (i + 1) rows ≡ take i rows ++ row ∷ []
take_row rows i row is = take_more rows i row (slice_get_within rows i row is) ∙ ap (λ r. take i rows ++ r ∷ []) (get_or_from_slice_get rows i row row is)

entries_push : (f : Pages) (rows : List WorkingRow) (entries : List PageEntry) (page : ℕ) (image : List ℕ) (entry : PageEntry) → AreEntries f rows entries → IsEntryOf (record { 0 = page }) (f page) image entry
    → AreEntries f (rows ++ (page, Some image) ∷ []) (entries ++ entry ∷ [])
entries_push f [] entries page image entry are is = subst (λ (l : List PageEntry). AreEntries f ((page, Some image) ∷ []) (l ++ entry ∷ [])) (sym are) (is, refl)
entries_push f ((p, None) ∷ rows) entries page image entry are is = entries_push f rows entries page image entry are is
entries_push f ((p, Some b) ∷ rows) [] page image entry are is = absurd are
entries_push f ((p, Some b) ∷ rows) (e ∷ entries) page image entry are is = (are.0, entries_push f rows entries page image entry are.1 is)

entries_skip : (f : Pages) (rows : List WorkingRow) (entries : List PageEntry) (page : ℕ) → AreEntries f rows entries → AreEntries f (rows ++ (page, None) ∷ []) entries
entries_skip f [] entries page are = are
entries_skip f ((p, None) ∷ rows) entries page are = entries_skip f rows entries page are
entries_skip f ((p, Some b) ∷ rows) [] page are = absurd are
entries_skip f ((p, Some b) ∷ rows) (e ∷ entries) page are = (are.0, entries_skip f rows entries page are.1)

given_append : (xs ys : List WorkingRow) → given_back (xs ++ ys) ≡ given_back xs ++ given_back ys
given_append [] ys = refl
given_append ((page, None) ∷ xs) ys = ap (λ (l : List PageNo). record { 0 = page } ∷ l) (given_append xs ys)
given_append ((page, Some image) ∷ xs) ys = given_append xs ys

-- ---- the changed pages whole

-- of the first rows, where nothing is known of the pages so far
abbrev pub AreImages : List WorkingRow → ℕ → List PageEntry → Type 0
AreImages rows i entries = AreEntries (λ page. None) (take i rows) entries

pub next_image : (rows : List WorkingRow) (i : ℕ) (page : PageNo) (bytes : List ℕ) (entry : PageEntry) (entries later : List PageEntry) → slice_get rows i ≡ Some (page.0, Some bytes) → AreImages rows i entries → IsEntryOf page None bytes entry
    → later ≡ entries ++ entry ∷ [] → AreImages rows (i + 1) later
next_image rows i page bytes entry entries later is so_far made put =
    subst (AreImages rows (i + 1)) (sym put)
    (subst (λ (l : List WorkingRow). AreEntries (λ page. None) l (entries ++ entry ∷ [])) (sym (take_row rows i (page.0, Some bytes) is)) (entries_push (λ page. None) (take i rows) entries page.0 bytes entry so_far made))

pub no_image : (rows : List WorkingRow) (i : ℕ) (page : ℕ) (entries later : List PageEntry) → slice_get rows i ≡ Some (page, None) → AreImages rows i entries → later ≡ entries → AreImages rows (i + 1) later
no_image rows i page entries later is so_far same =
    subst (AreImages rows (i + 1)) (sym same)
    (subst (λ (l : List WorkingRow). AreEntries (λ page. None) l entries) (sym (take_row rows i (page, None) is)) (entries_skip (λ page. None) (take i rows) entries page so_far))

pub all_images : (rows : List WorkingRow) (i : ℕ) (entries : List PageEntry) → length rows ≤ i → AreImages rows i entries → AreEntries (λ page. None) rows entries
all_images rows i entries all so_far = subst (λ (l : List WorkingRow). AreEntries (λ page. None) l entries) (take_all i rows all) so_far

-- ---- the changed pages by the rule

abbrev pub IsOf : Pages → ℕ × List ℕ → PageEntry → Type 0
IsOf f row entry = IsEntryOf (record { 0 = row.0 }) (f row.0) row.1 entry

-- of the first rows that have an image
abbrev pub AreFirst : Overlays → ℕ → List PageEntry → Type 0
AreFirst o i entries = AllZip (IsOf (committed_image o)) (take i (imaged o.working)) entries

zip_push : {A B : Type 0} (R : A → B → Type 0) (xs : List A) (ys : List B) (x : A) (y : B) → AllZip R xs ys → R x y → AllZip R (xs ++ x ∷ []) (ys ++ y ∷ [])
zip_push R [] [] x y all one = (one, tt)
zip_push R [] (b ∷ ys) x y all one = absurd all
zip_push R (a ∷ xs) [] x y all one = absurd all
zip_push R (a ∷ xs) (b ∷ ys) x y all one = (all.0, zip_push R xs ys x y all.1 one)

pub next_entry : (o : Overlays) (i : ℕ) (entry : PageEntry) (entries later : List PageEntry) → AreFirst o i entries → IsEntryAt o i entry → later ≡ entries ++ entry ∷ [] → AreFirst o (i + 1) later
next_entry o i entry entries later so_far made put =
    subst (AreFirst o (i + 1)) (sym put)
    (subst (λ (l : List (ℕ × List ℕ)). AllZip (IsOf (committed_image o)) l (entries ++ entry ∷ [])) (sym (take_row (imaged o.working) i (entry.page.0, made.image) made.row))
    (zip_push (IsOf (committed_image o)) (take i (imaged o.working)) entries (entry.page.0, made.image) entry so_far made.is))

pub no_entry : (o : Overlays) (i : ℕ) (entries later : List PageEntry) → AreFirst o i entries → length (imaged o.working) ≤ i → later ≡ entries → AreFirst o (i + 1) later
no_entry o i entries later so_far end same =
    subst (AreFirst o (i + 1)) (sym same)
    (subst (λ (l : List (ℕ × List ℕ)). AllZip (IsOf (committed_image o)) l entries) (take_all i (imaged o.working) end ∙ sym (take_all (i + 1) (imaged o.working) (omega (arith, end)))) so_far)

imaged_few : (rows : List WorkingRow) → length (imaged rows) ≤ length rows
imaged_few [] = omega arith
imaged_few ((page, None) ∷ rows) = omega (arith, imaged_few rows)
imaged_few ((page, Some image) ∷ rows) = omega (arith, imaged_few rows)

of_rows : (f : Pages) (rows : List WorkingRow) (entries : List PageEntry) → AllZip (IsOf f) (imaged rows) entries → AreEntries f rows entries
of_rows f [] [] all = refl
of_rows f [] (e ∷ entries) all = absurd all
of_rows f ((page, None) ∷ rows) entries all = of_rows f rows entries all
of_rows f ((page, Some image) ∷ rows) [] all = absurd all
of_rows f ((page, Some image) ∷ rows) (e ∷ entries) all = (all.0, of_rows f rows entries all.1)

pub all_entries : (o : Overlays) (i : ℕ) (entries : List PageEntry) → length o.working ≤ i → AreFirst o i entries → AreEntries (committed_image o) o.working entries
all_entries o i entries end so_far =
    of_rows (committed_image o) o.working entries
    (subst (λ (l : List (ℕ × List ℕ)). AllZip (IsOf (committed_image o)) l entries) (take_all i (imaged o.working) (omega (arith, end, imaged_few o.working))) so_far)

-- ---- the pages that were given back

abbrev pub AreGiven : List WorkingRow → ℕ → List PageNo → Type 0
AreGiven rows i freed = freed ≡ given_back (take i rows)

pub next_given : (rows : List WorkingRow) (i : ℕ) (page : PageNo) (freed later : List PageNo) → slice_get rows i ≡ Some (page.0, None) → AreGiven rows i freed → later ≡ freed ++ page ∷ [] → AreGiven rows (i + 1) later
next_given rows i page freed later is so_far put =
    let row : List WorkingRow = (page.0, None) ∷ [] in
    put ∙ ap (λ (l : List PageNo). l ++ page ∷ []) so_far ∙ sym (given_append (take i rows) row) ∙ sym (ap given_back (take_row rows i (page.0, None) is))

pub none_given : (rows : List WorkingRow) (i : ℕ) (page : ℕ) (bytes : List ℕ) (freed later : List PageNo) → slice_get rows i ≡ Some (page, Some bytes) → AreGiven rows i freed → later ≡ freed → AreGiven rows (i + 1) later
none_given rows i page bytes freed later is so_far same =
    let row : List WorkingRow = (page, Some bytes) ∷ [] in
    same ∙ so_far ∙ sym (append-nil (given_back (take i rows))) ∙ sym (given_append (take i rows) row) ∙ sym (ap given_back (take_row rows i (page, Some bytes) is))

pub all_given : (rows : List WorkingRow) (i : ℕ) (freed : List PageNo) → length rows ≤ i → AreGiven rows i freed → freed ≡ given_back rows
all_given rows i freed all so_far = so_far ∙ ap given_back (take_all i rows all)

-- ---- the record

abbrev made_record : ℕ → List OpNote → List PageEntry → List WorkingRow → LogRecord
made_record txn notes entries rows = record { kind = Forms; txn = txn; notes = notes; pages = entries; freed = given_back rows }

pub is_of : (f : Pages) (txn : ℕ) (notes : List OpNote) (rows : List WorkingRow) (entries : List PageEntry) (r : LogRecord) → AreEntries f rows entries → r ≡ made_record txn notes entries rows → IsRecordOf f txn notes rows r
is_of f txn notes rows entries r are is = subst (IsRecordOf f txn notes rows) (sym is) (record { kind = refl; txn_is = refl; notes_are = refl; entries = are; freed = refl })

-- ---- rising numbers

abbrev Above : ℕ → List ℕ → Type 0
Above low xs = AllByRecursion (λ (x : ℕ). low < x) xs

-- the pages that have an image
abbrev imaged_pages : List WorkingRow → List ℕ
imaged_pages [] = []
imaged_pages ((page, None) ∷ rows) = imaged_pages rows
imaged_pages ((page, Some image) ∷ rows) = page ∷ imaged_pages rows

pages_are : (f : Pages) (rows : List WorkingRow) (entries : List PageEntry) → AreEntries f rows entries → map page_of entries ≡ imaged_pages rows
pages_are f [] entries are = ap (map page_of) are
pages_are f ((page, None) ∷ rows) entries are = pages_are f rows entries are
pages_are f ((page, Some image) ∷ rows) [] are = absurd are
pages_are f ((page, Some image) ∷ rows) (e ∷ entries) are = ap (λ (p : PageNo). p.0 ∷ map page_of entries) are.0.page_is ∙ ap (λ (l : List ℕ). page ∷ l) (pages_are f rows entries are.1)

images_above : (low : ℕ) (rows : List WorkingRow) → IsAbove low rows → Above low (imaged_pages rows)
images_above low [] above = tt
images_above low ((page, None) ∷ rows) above = images_above low rows above.1
images_above low ((page, Some image) ∷ rows) above = (above.0, images_above low rows above.1)

given_above : (low : ℕ) (rows : List WorkingRow) → IsAbove low rows → Above low (map number_of (given_back rows))
given_above low [] above = tt
given_above low ((page, None) ∷ rows) above = (above.0, given_above low rows above.1)
given_above low ((page, Some image) ∷ rows) above = given_above low rows above.1

rising_on : (low : ℕ) (xs : List ℕ) → Above low xs → Rising xs → Rising (low ∷ xs)
rising_on low [] above rising = tt
rising_on low (x ∷ xs) above rising = (above.0, rising)

images_rising : (rows : List WorkingRow) → IsRising rows → Rising (imaged_pages rows)
images_rising [] rising = tt
images_rising ((page, None) ∷ rows) rising = images_rising rows rising.1
images_rising ((page, Some image) ∷ rows) rising = rising_on page (imaged_pages rows) (images_above page rows rising.0) (images_rising rows rising.1)

given_rising : (rows : List WorkingRow) → IsRising rows → Rising (map number_of (given_back rows))
given_rising [] rising = tt
given_rising ((page, None) ∷ rows) rising = rising_on page (map number_of (given_back rows)) (given_above page rows rising.0) (given_rising rows rising.1)
given_rising ((page, Some image) ∷ rows) rising = given_rising rows rising.1

above_lacks : (low : ℕ) (xs : List ℕ) → Above low xs → ¬ Contains xs low
above_lacks low [] above at = Contains-nil low at
above_lacks low (x ∷ xs) above at = ⊎_elim (λ (here : x ≡ low). absurd (omega (arith, here, above.0))) (λ later. above_lacks low xs above.1 later) (Contains-cons x xs low at)

lacks_first : (low : ℕ) (xs : List ℕ) (pages : List PageNo) → Above low (map number_of pages) → AllByRecursion (λ (p : PageNo). ¬ Contains xs p.0) pages → AllByRecursion (λ (p : PageNo). ¬ Contains (low ∷ xs) p.0) pages
lacks_first low xs [] above lacks = tt
lacks_first low xs (p ∷ pages) above lacks =
    (λ at. ⊎_elim (λ (here : low ≡ p.0). absurd (omega (arith, here, above.0))) (λ later. lacks.0 later) (Contains-cons low xs p.0 at), lacks_first low xs pages above.1 lacks.1)

apart : (rows : List WorkingRow) → IsRising rows → AllByRecursion (λ (p : PageNo). ¬ Contains (imaged_pages rows) p.0) (given_back rows)
apart [] rising = tt
apart ((page, None) ∷ rows) rising = (above_lacks page (imaged_pages rows) (images_above page rows rising.0), apart rows rising.1)
apart ((page, Some image) ∷ rows) rising = lacks_first page (imaged_pages rows) (given_back rows) (given_above page rows rising.0) (apart rows rising.1)

-- ---- a record of the log

count_rows : (rows : List WorkingRow) → length (imaged_pages rows) + length (given_back rows) ≡ length rows
count_rows [] = refl
count_rows ((page, None) ∷ rows) = omega (arith, count_rows rows)
count_rows ((page, Some image) ∷ rows) = omega (arith, count_rows rows)

count_entries : (f : Pages) (rows : List WorkingRow) (entries : List PageEntry) → AreEntries f rows entries → length entries + length (given_back rows) ≡ length rows
count_entries f rows entries are = omega (arith, sym (length-map entries page_of), ap length (pages_are f rows entries are), count_rows rows)

is_entry : (g : Geometry) (f : Pages) (page : ℕ) (image : List ℕ) (e : PageEntry) → InPageArea g page × (length image ≡ g.page_size) → IsEntryOf (record { 0 = page }) (f page) image e → IsEntry g Forms e
is_entry g f page image e row is = record {
  area = subst (λ (p : PageNo). InPageArea g p.0) (sym is.page_is) row.0;
  form = tt;
  fields = subst (λ (n : ℕ). AreFields n e.form e.fields) row.1 is.fields;
}

each_entry : (g : Geometry) (f : Pages) (rows : List WorkingRow) (entries : List PageEntry) → All (IsWorkingRow g) rows → AreEntries f rows entries → AllByRecursion (IsEntry g Forms) entries
each_entry g f [] entries all are = subst (AllByRecursion (IsEntry g Forms)) (sym are) tt
each_entry g f ((page, None) ∷ rows) entries all are = each_entry g f rows entries (All-tail (IsWorkingRow g) (page, None) rows all) are
each_entry g f ((page, Some image) ∷ rows) [] all are = absurd are
each_entry g f ((page, Some image) ∷ rows) (e ∷ entries) all are =
    (is_entry g f page image e (All-head (IsWorkingRow g) (page, Some image) rows all) are.0, each_entry g f rows entries (All-tail (IsWorkingRow g) (page, Some image) rows all) are.1)

each_given : (g : Geometry) (rows : List WorkingRow) → All (IsWorkingRow g) rows → AllByRecursion (IsFreed g) (given_back rows)
each_given g [] all = tt
each_given g ((page, None) ∷ rows) all = ((All-head (IsWorkingRow g) (page, None) rows all).0, each_given g rows (All-tail (IsWorkingRow g) (page, None) rows all))
each_given g ((page, Some image) ∷ rows) all = each_given g rows (All-tail (IsWorkingRow g) (page, Some image) rows all)

has_image : (page : ℕ) (rows : List WorkingRow) (image : List ℕ) → lookup (nat_eq page) rows ≡ Some (Some image) → Contains (imaged_pages rows) page
has_image page [] image found = absurd (cc)
has_image page ((p, None) ∷ rows) image found = ⊎_elim
    (λ (same : (nat_eq page p ≡ true) × (page ≡ p)). absurd (let e = ap (λ (b : Bool). cond b (Some None) (lookup (nat_eq page) rows)) same.0 in cc))
    (λ (other : (nat_eq page p ≡ false) × (page ≢ p)). has_image page rows image (sym (ap (λ (b : Bool). cond b (Some None) (lookup (nat_eq page) rows)) other.0) ∙ found)) (eqb_tells page p)
has_image page ((p, Some bytes) ∷ rows) image found = ⊎_elim
    (λ (same : (nat_eq page p ≡ true) × (page ≡ p)). subst (λ (n : ℕ). Contains (p ∷ imaged_pages rows) n) (sym same.1) (Contains-head p (imaged_pages rows)))
    (λ (other : (nat_eq page p ≡ false) × (page ≢ p)). Contains-tail p (imaged_pages rows) page (has_image page rows image (sym (ap (λ (b : Bool). cond b (Some (Some bytes)) (lookup (nat_eq page) rows)) other.0) ∙ found))) (eqb_tells page p)

module _ (o : Overlays) (f : Pages) (txn : ℕ) (notes : List OpNote) (entries : List PageEntry) (are : AreRows o) (of : AreEntries f o.working entries) (small : txn < 2 ^ 64) (few_notes : length notes ≤ updates_most) (is_notes : AllByRecursion IsNote notes)
    (few_pages : length o.working ≤ touched_most) (catalog : HasCatalog o.working) where
  pages_here : map page_of entries ≡ imaged_pages o.working
  pages_here = pages_are f o.working entries of

  is_short : record_len (made_record txn notes entries o.working) < 2 ^ 32
  is_short =
      let g = o.geometry in
      let most = mul-le (length entries) (g.page_size + 5) 128 8197 (omega (arith, count_entries f o.working entries of, few_pages)) (omega (arith, page_size_most g.page_size g.a_page_size)) in
      omega (arith, entries_most g f o.working entries are.working_pages of, most, few_notes, count_entries f o.working entries of, few_pages)

  made_valid : IsLogRecord o.geometry (made_record txn notes entries o.working)
  made_valid = record {
    txn = small;
    few_notes = few_notes;
    few_pages = omega (arith, count_entries f o.working entries of, few_pages);
    notes = is_notes;
    entries = each_entry o.geometry f o.working entries are.working_pages of;
    freed = each_given o.geometry o.working are.working_pages;
    rising = subst Rising (sym pages_here) (images_rising o.working are.working_rising);
    freed_rising = given_rising o.working are.working_rising;
    apart = subst (λ (l : List ℕ). AllByRecursion (λ (p : PageNo). ¬ Contains l p.0) (given_back o.working)) (sym pages_here) (apart o.working are.working_rising);
    catalog = subst (λ (l : List ℕ). Contains l catalog_no) (sym pages_here) (has_image catalog_no o.working catalog.0 catalog.1);
    short = is_short;
  }

  pub is_record : (r : LogRecord) → r ≡ made_record txn notes entries o.working → IsLogRecord o.geometry r
  is_record r is = subst (IsLogRecord o.geometry) (sym is) made_valid
