-- Every record of a volume stands at its place, and is one thing alone there.
use Rattle.std.proofs.Common.{◌≡◌, ℕ, suc, ◌+◌, ◌<◌, List, [], ◌∷◌, length, Some, None, sym, ap, subst, ◌∙◌, arith}
use Rattle.std.specs.Prelude.{slice_get}
use Rattle.std.specs.List.{flat_map, AllByRecursion, AllZip, zip}
use Rattle.ex_base.specs.declared.names.Place.{Place}
use Rattle.ex_base.proofs.Rows.{each-append}
use Rattle.slotted_pages.specs.FilePage.{FilePage, Slot, SlotsOf}
use Rattle.object_records.specs.Record.{Record, BodyOf}
use Rattle.object_files.specs.Catalog.{FileEntry}
use Rattle.trees.specs.Trees.{Units}
use Rattle.volume_model.specs.Links.{NumbersDiffer, PlacesDiffer, place_in}
use Rattle.volume_model.specs.Parts.{HasBodies, HasPage, HasPages, bodies_from, bodies_in, IsStored}
use Rattle.volume_model.specs.Volume.{FileContent, Stored, unique_of}
use Rattle.volume_model.proofs.OneReading.{one_page, one_record}
use Rattle.volume_model.proofs.Places.{Sep, each_has, sep_by, sep_from, sep_to}

-- ---- a record by its place

pub record StoredAt (units : Units) (s : Stored) : Type 0 where
  pub page : FilePage
  pub slots : SlotsOf (units s.place.page.0) page
  pub bytes : List ℕ
  pub here : slice_get page.slots s.place.slot ≡ Some (Some bytes)
  pub body : BodyOf bytes s.body

abbrev made : Place → Record → Stored
made place body = record { place = place; body = body }

pub one_at : (units : Units) (s t : Stored) → StoredAt units s → StoredAt units t → s.place ≡ t.place → s ≡ t
one_at units s t p q place =
    let bytes : units t.place.page.0 ≡ units s.place.page.0 = ap (λ (x : Place). units x.page.0) (sym place) in
    let page : p.page ≡ q.page = one_page (units s.place.page.0) p.page q.page p.slots (subst (λ (b : List ℕ). SlotsOf b q.page) bytes q.slots) in
    let slot : s.place.slot ≡ t.place.slot = ap (λ (x : Place). x.slot) place in
    let found : slice_get p.page.slots s.place.slot ≡ slice_get q.page.slots t.place.slot = cc (page, slot) in
    let same_bytes : p.bytes ≡ q.bytes = cc (p.here, q.here, found) in
    let body : s.body ≡ t.body = one_record q.bytes s.body t.body (subst (λ (b : List ℕ). BodyOf b s.body) same_bytes p.body) q.body in
    let same : made s.place s.body ≡ made t.place t.body = cc (place, body) in
    same

-- ---- every record of a file stands at its place

record RowAt (units : Units) (row : Place × List ℕ) : Type 0 where
  page : FilePage
  slots : SlotsOf (units row.0.page.0) page
  here : slice_get page.slots row.0.slot ≡ Some (Some row.1)

rows_from : (units : Units) (page : ℕ) (whole : FilePage) (slot : ℕ) (slots : List Slot) → SlotsOf (units page) whole → ((i : ℕ) → i < length slots → slice_get slots i ≡ slice_get whole.slots (slot + i)) → AllByRecursion (RowAt units) (bodies_from page slot slots)
rows_from units page whole slot [] is same = tt
rows_from units page whole slot (None ∷ slots) is same =
    rows_from units page whole (suc slot) slots is (λ i lt. same (suc i) (omega arith) ∙ ap (slice_get whole.slots) (let e : slot + suc i ≡ suc slot + i = omega arith in e))
rows_from units page whole slot (Some body ∷ slots) is same = (
  record { page = whole; slots = is; here = ap (slice_get whole.slots) (let e : slot ≡ slot + 0 = omega arith in e) ∙ sym (same 0 (omega arith)) },
  rows_from units page whole (suc slot) slots is (λ i lt. same (suc i) (omega arith) ∙ ap (slice_get whole.slots) (let e : slot + suc i ≡ suc slot + i = omega arith in e)),
)

rows_in : (units : Units) (entry : FileEntry) (numbers : List ℕ) (pages : List FilePage) → AllZip (HasPage units entry) numbers pages → AllByRecursion (RowAt units) (flat_map (λ (row : ℕ × FilePage). bodies_from row.0 0 row.1.slots) (zip numbers pages))
rows_in units entry [] [] h = tt
rows_in units entry [] (p ∷ pages) h = absurd h
rows_in units entry (page ∷ numbers) [] h = absurd h
rows_in units entry (page ∷ numbers) (p ∷ pages) h =
    each-append (RowAt units) (bodies_from page 0 p.slots) _ (rows_from units page p 0 p.slots h.0.0 (λ i lt. ap (slice_get p.slots) (let e : i ≡ 0 + i = omega arith in e))) (rows_in units entry numbers pages h.1)

stored_at_rows : (units : Units) (rows : List (Place × List ℕ)) (stored : List Stored) → AllZip IsStored rows stored → AllByRecursion (RowAt units) rows → AllByRecursion (StoredAt units) stored
stored_at_rows units [] [] h k = tt
stored_at_rows units [] (s ∷ stored) h k = absurd h
stored_at_rows units (row ∷ rows) [] h k = absurd h
stored_at_rows units (row ∷ rows) (s ∷ stored) h k = (
  record {
    page = k.0.page;
    slots = subst (λ (p : Place). SlotsOf (units p.page.0) k.0.page) h.0.0 k.0.slots;
    bytes = row.1;
    here = subst (λ (p : Place). slice_get k.0.page.slots p.slot ≡ Some (Some row.1)) h.0.0 k.0.here;
    body = h.0.1;
  },
  stored_at_rows units rows stored h.1 k.1,
)

pub file_at : (units : Units) (entry : FileEntry) (file : FileContent) → HasPages units entry file → HasBodies file → AllByRecursion (StoredAt units) file.stored
file_at units entry file pages bodies = stored_at_rows units (bodies_in file) file.stored bodies.records (rows_in units entry file.numbers file.pages pages)

-- every record of files stands at its place
pub files_at : (units : Units) (entries : List FileEntry) (files : List FileContent) → AllZip (HasPages units) entries files → AllByRecursion HasBodies files
    → AllByRecursion (StoredAt units) (flat_map (λ (f : FileContent). f.stored) files)
files_at units [] [] pages bodies = tt
files_at units [] (f ∷ files) pages bodies = absurd pages
files_at units (e ∷ entries) [] pages bodies = tt
files_at units (e ∷ entries) (f ∷ files) pages bodies =
    each-append (StoredAt units) f.stored (flat_map (λ (f : FileContent). f.stored) files) (file_at units e f pages.0 bodies.0) (files_at units entries files pages.1 bodies.1)

-- so no two stand at one place, where they have different numbers
pub numbers_apart : (units : Units) (stored : List Stored) → AllByRecursion (StoredAt units) stored → Sep unique_of stored → Sep place_in stored
numbers_apart units stored at differ =
    sep_by unique_of place_in stored (λ s t here there same. ap unique_of (one_at units s t (each_has (StoredAt units) stored at s here) (each_has (StoredAt units) stored at t there) same)) differ

pub places_differ : (units : Units) (stored : List Stored) → AllByRecursion (StoredAt units) stored → NumbersDiffer stored → PlacesDiffer stored
places_differ units stored at differ = sep_to place_in stored (numbers_apart units stored at (sep_from unique_of stored differ))
