-- Records that are gathered body by body, and pages page by page.
use Rattle.std.proofs.Common.{◌≡◌, ◌≤◌, ◌+◌, ℕ, suc, true, false, List, [], ◌∷◌, ◌++◌, length, drop, map, Option, Some, None, refl, sym, ap, subst, ◌∙◌, arith, append_assoc}
use Rattle.std.specs.List.{AllByRecursion}
use Rattle.std.proofs.lemmas.List.{append-nil, map-append}
use Rattle.ex_base.specs.declared.names.Place.{Place}
use Rattle.ex_base.specs.declared.names.Root.{Root}
use Rattle.ex_base.proofs.Rows.{each-append}
use Rattle.slotted_pages.specs.FilePage.{FilePage, SlotsOf, Slot}
use Rattle.slotted_pages.specs.Reads.{Viewed, viewed_on, page_on}
use Rattle.slotted_pages.proofs.PageLaws.{page_read_is}
use Rattle.object_records.specs.declared.Head.{Head}
use Rattle.object_records.specs.Record.{Record, BodyOf, Content, Small, Large, IsContent, IsRootField}
use Rattle.object_records.specs.Reads.{record_on}
use Rattle.object_records.proofs.RecordLaws.{record_read}
use Rattle.volume_model.specs.Parts.{bodies_from}
use Rattle.file_walk.specs.declared.records.Standing.{Standing}
use Rattle.file_walk.specs.Objects.{root_found}
use Rattle.file_walk.specs.Records.{AreRooted, HasFields, IsGoodRow, standing_at, AddsRows, ShowsFile}

-- ---- one record

pub good_row : (place : Place) (body : List ℕ) (r : Record) → BodyOf body r → IsGoodRow (place, body)
good_row place body r is = subst (BodyOf body) (sym (record_read body r is)) is

pub standing_is : (place : Place) (body : List ℕ) (r : Record) (head : Head) (root : Option Root) → BodyOf body r → head ≡ r.head → root ≡ root_found r.content
    → record { linked = record { place = place; head = head }; root = root } ≡ standing_at (place, body)
standing_is place body r head root is same_head same_root =
    ap (λ (h : Head). made h root) same_head ∙ ap (made r.head) same_root ∙ ap (λ (x : Record). made x.head (root_found x.content)) (sym (record_read body r is))
  where
    made : Head → Option Root → Standing
    made h o = record { linked = record { place = place; head = h }; root = o }

-- a good record has the fields of a root where it has one
good_rooted : (r : Record) (root : Root) → IsContent r.content → root_found r.content ≡ Some root → IsRootField root
good_rooted r root content is = content_rooted r.content root content is
  where
    content_rooted : (c : Content) (root : Root) → IsContent c → root_found c ≡ Some root → IsRootField root
    content_rooted (Small bytes) root content is = absurd (cc)
    content_rooted (Large other) root content is = let same : other ≡ root = cc in subst IsRootField same content

rows_rooted : (rows : List (Place × List ℕ)) → AllByRecursion IsGoodRow rows → AreRooted (map standing_at rows)
rows_rooted [] good = tt
rows_rooted (row ∷ rows) good = ((λ root is. good_rooted (record_on row.1) root good.0.fits.content is), rows_rooted rows good.1)

abbrev IsRooted : Standing → Type 0
IsRooted x = HasFields x.root

pub adds_rooted : (old new : List Standing) (rows : List (Place × List ℕ)) → AddsRows old new rows → AreRooted old → AreRooted new
adds_rooted old new rows adds rooted = subst AreRooted (sym adds.records) (each-append IsRooted old (map standing_at rows) rooted (rows_rooted rows adds.good))

-- ---- records gathered

-- records were gathered of rows, of which these are left
pub record RowsTo (old now : List Standing) (all left : List (Place × List ℕ)) : Type 0 where
  pub records : old ++ map standing_at all ≡ now ++ map standing_at left
  pub each : AllByRecursion IsGoodRow left → AllByRecursion IsGoodRow all
  pub rest : AllByRecursion IsGoodRow all → AllByRecursion IsGoodRow left

pub rows_start : (old : List Standing) (all : List (Place × List ℕ)) → RowsTo old old all all
rows_start old all = record { records = refl; each = λ h. h; rest = λ h. h }

pub good_front : (xs ys : List (Place × List ℕ)) → AllByRecursion IsGoodRow (xs ++ ys) → AllByRecursion IsGoodRow xs
good_front [] ys h = tt
good_front (x ∷ xs) ys h = (h.0, good_front xs ys h.1)

pub good_back : (xs ys : List (Place × List ℕ)) → AllByRecursion IsGoodRow (xs ++ ys) → AllByRecursion IsGoodRow ys
good_back [] ys h = h
good_back (x ∷ xs) ys h = good_back xs ys h.1

pub rows_step : (old now next : List Standing) (all rows left : List (Place × List ℕ)) → RowsTo old now all (rows ++ left) → AddsRows now next rows → RowsTo old next all left
rows_step old now next all rows left to adds = record {
  records = to.records ∙ ap (λ (t : List Standing). now ++ t) (map-append standing_at rows left) ∙ sym (append_assoc now (map standing_at rows) (map standing_at left)) ∙ ap (λ (t : List Standing). t ++ map standing_at left) (sym adds.records);
  each = λ h. to.each (each-append IsGoodRow rows left adds.good h);
  rest = λ h. good_back rows left (to.rest h);
}

pub rows_end : (old now : List Standing) (all : List (Place × List ℕ)) → RowsTo old now all [] → AddsRows old now all
rows_end old now all to = record { good = to.each tt; records = sym (to.records ∙ append-nil now) }

pub rows_bad : (old now : List Standing) (all rows left : List (Place × List ℕ)) → RowsTo old now all (rows ++ left) → (AllByRecursion IsGoodRow rows → ⊥) → AllByRecursion IsGoodRow all → ⊥
rows_bad old now all rows left to never good = never (good_front rows left (to.rest good))

pub rows_as : (old now : List Standing) (all left same : List (Place × List ℕ)) → left ≡ same → RowsTo old now all left → RowsTo old now all same
rows_as old now all left same e to = subst (RowsTo old now all) e to

-- ---- the slots of a page

pub slot_vacant : (page i : ℕ) (slots : List Slot) → drop i slots ≡ None ∷ drop (i + 1) slots → bodies_from page i (drop i slots) ≡ bodies_from page (i + 1) (drop (i + 1) slots)
slot_vacant page i slots is =
    let e : suc i ≡ i + 1 = omega arith in
    ap (bodies_from page i) is ∙ ap (λ (n : ℕ). bodies_from page n (drop (i + 1) slots)) e

abbrev pub row_at : ℕ → ℕ → List ℕ → Place × List ℕ
row_at page slot body = (record { page = record { 0 = page }; slot = slot }, body)

pub slot_live : (page i : ℕ) (body : List ℕ) (slots : List Slot) → drop i slots ≡ Some body ∷ drop (i + 1) slots → bodies_from page i (drop i slots) ≡ (row_at page i body ∷ []) ++ bodies_from page (i + 1) (drop (i + 1) slots)
slot_live page i body slots is =
    let e : suc i ≡ i + 1 = omega arith in
    ap (bodies_from page i) is ∙ ap (λ (n : ℕ). row_at page i body ∷ bodies_from page n (drop (i + 1) slots)) e

-- ---- a page that is checked

pub view_is : (bytes : List ℕ) (v : Viewed) → v.size ≡ length bytes → SlotsOf bytes v.page → v ≡ viewed_on bytes
view_is bytes v size is =
    let by_size : v ≡ record { size = length bytes; page = v.page } = ap (λ (n : ℕ). record { size = n; page = v.page }) size in
    by_size ∙ ap (λ (p : FilePage). record { size = length bytes; page = p }) (sym (page_read_is bytes v.page is))

pub shows_file : (bytes : List ℕ) (p : FilePage) (file_no : ℕ) → SlotsOf bytes p → 1 ≤ length p.slots → p.file_no ≡ file_no → ShowsFile bytes file_no
shows_file bytes p file_no is some number =
    let same : p ≡ page_on bytes = sym (page_read_is bytes p is) in
    record {
      spelled = subst (SlotsOf bytes) same is;
      some = subst (λ (q : FilePage). 1 ≤ length q.slots) same some;
      number = subst (λ (q : FilePage). q.file_no ≡ file_no) same number;
    }
