-- Rows that are listed one after the other: those of the slots of a page, and those of the pages that an index leads to.
use Rattle.std.proofs.Common.{◌≡◌, ◌+◌, ◌<◌, ℕ, suc, List, [], ◌∷◌, ◌++◌, drop, length, map, Option, Some, None, refl, sym, ap, subst, ◌∙◌, arith, append_assoc}
use Rattle.std.specs.List.{AllByRecursion}
use Rattle.std.proofs.lemmas.List.{append-nil, map-append, drop_more}
use Rattle.std.specs.Prelude.{slice_index_or}
use Rattle.object_records.specs.Record.{Record, BodyOf}
use Rattle.slotted_pages.specs.FilePage.{Slot}
use Rattle.file_bodies.specs.Bodies.{Row, bodies_from}
use Rattle.versions.specs.Listed.{AreReadable}
use Rattle.record_lists.specs.declared.Listed.{Listed}
use Rattle.record_lists.specs.Listed.{listed_of}

-- rows are listed behind others, and some of them are left
pub record ListsTo (old now : List Listed) (all left : List Row) : Type 0 where
  pub records : old ++ map listed_of all ≡ now ++ map listed_of left
  pub readable : AreReadable all → AreReadable left

pub lists_none : (old : List Listed) (all : List Row) → ListsTo old old all all
lists_none old all = record { records = refl; readable = λ h. h }

pub lists_all : (old now : List Listed) (all : List Row) → ListsTo old now all [] → now ≡ old ++ map listed_of all
lists_all old now all to = sym (to.records ∙ append-nil now)

-- what holds of each of two lists joined holds of each of the first one, and of the second
pub each_front : {A : Type 0} (P : A → Type 0) (xs ys : List A) → AllByRecursion P (xs ++ ys) → AllByRecursion P xs
each_front P [] ys h = tt
each_front P (x ∷ xs) ys h = (h.0, each_front P xs ys h.1)

pub each_back : {A : Type 0} (P : A → Type 0) (xs ys : List A) → AllByRecursion P (xs ++ ys) → AllByRecursion P ys
each_back P [] ys h = h
each_back P (x ∷ xs) ys h = each_back P xs ys h.1

abbrev pub IsReadableRow : Row → Type 0
IsReadableRow row = (is : Record) × BodyOf row.1 is

-- the first of those that are left are listed
pub lists_more : (old now next : List Listed) (all rows left same : List Row) → ListsTo old now all same → same ≡ rows ++ left → next ≡ now ++ map listed_of rows → ListsTo old next all left
lists_more old now next all rows left same to is more = record {
  records = to.records ∙ ap (λ (t : List Row). now ++ map listed_of t) is ∙ ap (λ (t : List Listed). now ++ t) (map-append listed_of rows left)
      ∙ sym (append_assoc now (map listed_of rows) (map listed_of left)) ∙ ap (λ (t : List Listed). t ++ map listed_of left) (sym more);
  readable = λ h. each_back IsReadableRow rows left (subst AreReadable is (to.readable h));
}

-- the first of those that are left are readable where all are
pub first_readable : (old now : List Listed) (all rows left same : List Row) → ListsTo old now all same → same ≡ rows ++ left → AreReadable all → AreReadable rows
first_readable old now all rows left same to is h = each_front IsReadableRow rows left (subst AreReadable is (to.readable h))

-- ---- the slots of a page

pub slot_here : (slots : List Slot) (i : ℕ) (s : Slot) → i < length slots → s ≡ slice_index_or slots i None → drop i slots ≡ s ∷ drop (i + 1) slots
slot_here slots i s lt is = drop_more slots i None lt ∙ ap (λ (t : Slot). t ∷ drop (i + 1) slots) (sym is)

pub slot_vacant : (page i : ℕ) (slots : List Slot) → drop i slots ≡ None ∷ drop (i + 1) slots → bodies_from page i (drop i slots) ≡ bodies_from page (i + 1) (drop (i + 1) slots)
slot_vacant page i slots is =
    let e : suc i ≡ i + 1 = omega arith in
    ap (bodies_from page i) is ∙ ap (λ (n : ℕ). bodies_from page n (drop (i + 1) slots)) e

abbrev pub row_at : ℕ → ℕ → List ℕ → Row
row_at page slot body = (record { page = record { 0 = page }; slot = slot }, body)

pub slot_live : (page i : ℕ) (body : List ℕ) (slots : List Slot) → drop i slots ≡ Some body ∷ drop (i + 1) slots → bodies_from page i (drop i slots) ≡ (row_at page i body ∷ []) ++ bodies_from page (i + 1) (drop (i + 1) slots)
slot_live page i body slots is =
    let e : suc i ≡ i + 1 = omega arith in
    ap (bodies_from page i) is ∙ ap (λ (n : ℕ). row_at page i body ∷ bodies_from page n (drop (i + 1) slots)) e
