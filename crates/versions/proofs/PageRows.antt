-- The rows on a page from a slot on, among those of the file.
use Rattle.std.proofs.Common.{◌≡◌, ◌≤◌, ◌<◌, ◌+◌, ℕ, zero, suc, List, [], ◌∷◌, ◌++◌, length, take, drop, Some, None, refl, sym, ap, subst, ◌∙◌, append_assoc, arith, inl, inr}
use Rattle.std.specs.Prelude.{slice_index_or}
use Rattle.std.specs.List.{flat_map, AllByRecursion}
use Rattle.std.proofs.lemmas.List.Concat.{flat_map-append}
use Rattle.ex_base.specs.declared.names.Place.{Place}
use Rattle.ex_base.specs.Ports.{times}
use Rattle.ex_base.proofs.Rows.{each-append}
use Rattle.ex_base.proofs.Counts.{same_or_not, times_apart}
use Rattle.slotted_pages.specs.FilePage.{Slot}
use Rattle.slotted_pages.specs.Reads.{IsPage}
use Rattle.slotted_pages.specs.Edits.{slots_of}
use Rattle.file_index.specs.Index.{Rises}
use Rattle.file_index.proofs.Picking.{rises_low}
use Rattle.file_bodies.specs.Bodies.{Row, place_at, row_of, bodies_from, bodies_on, IsBefore, InPlaceOrder}
use Rattle.file_bodies.specs.Places.{IsFrom, IsFirstFrom}
use Rattle.file_bodies.proofs.Following.{rows_each}
use Rattle.file_bodies.proofs.Rows.{split_at}
use Rattle.versions.specs.Listed.{rows_on}
use Rattle.versions.proofs.RowsListed.{Gathers, IsListed, same_cut, earlier, each_map}

-- ---- the slots of a page

pub rows_next : (page at i : ℕ) (slots : List Slot) → i < length slots → bodies_from page at (drop i slots) ≡ row_of (place_at page at) (slice_index_or slots i None) ++ bodies_from page (at + 1) (drop (i + 1) slots)
rows_next page at i [] lt = absurd (omega (arith, lt))
rows_next page at zero (s ∷ slots) lt =
    let e : suc at ≡ at + 1 = omega arith in
    ap (λ (n : ℕ). row_of (place_at page at) s ++ bodies_from page n slots) e
rows_next page at (suc i) (s ∷ slots) lt =
    let e : suc (i + 1) ≡ suc i + 1 = omega arith in
    rows_next page at i slots (omega (arith, lt)) ∙ ap (λ (n : ℕ). row_of (place_at page at) (slice_index_or slots i None) ++ bodies_from page (at + 1) (drop n (s ∷ slots))) e

pub rows_past : (page at i : ℕ) (slots : List Slot) → length slots ≤ i → bodies_from page at (drop i slots) ≡ []
rows_past page at zero [] le = refl
rows_past page at (suc i) [] le = refl
rows_past page at zero (s ∷ slots) le = absurd (omega (arith, le))
rows_past page at (suc i) (s ∷ slots) le = rows_past page at i slots (omega (arith, le))

rows_split : (page at s : ℕ) (slots : List Slot) → bodies_from page at slots ≡ bodies_from page at (take s slots) ++ bodies_from page (at + s) (drop s slots)
rows_split page at zero slots = let e : at ≡ at + 0 = omega arith in ap (λ (n : ℕ). bodies_from page n slots) e
rows_split page at (suc s) [] = refl
rows_split page at (suc s) (x ∷ slots) =
    let e : suc at + s ≡ at + suc s = omega arith in
    ap (λ (t : List Row). row_of (place_at page at) x ++ t) (rows_split page (suc at) s slots)
    ∙ sym (append_assoc (row_of (place_at page at) x) (bodies_from page (suc at) (take s slots)) (bodies_from page (suc at + s) (drop s slots)))
    ∙ ap (λ (n : ℕ). (row_of (place_at page at) x ++ bodies_from page (suc at) (take s slots)) ++ bodies_from page n (drop s slots)) e

slots_each : (Q : Row → Type 0) (page at : ℕ) (slots : List Slot) → ((n : ℕ) (body : List ℕ) → at ≤ n → n < at + length slots → Q (place_at page n, body)) → AllByRecursion Q (bodies_from page at slots)
slots_each Q page at [] f = tt
slots_each Q page at (None ∷ slots) f = slots_each Q page (suc at) slots (λ n body from to. f n body (omega (arith, from)) (omega (arith, to)))
slots_each Q page at (Some b ∷ slots) f = (f at b (omega arith) (omega arith), slots_each Q page (suc at) slots (λ n body from to. f n body (omega (arith, from)) (omega (arith, to))))

length-take-most : (s : ℕ) (slots : List Slot) → length (take s slots) ≤ s
length-take-most zero slots = omega arith
length-take-most (suc s) [] = omega arith
length-take-most (suc s) (x ∷ slots) = omega (arith, length-take-most s slots)

length-drop-most : (s : ℕ) (slots : List Slot) → s ≤ length slots → s + length (drop s slots) ≡ length slots
length-drop-most zero slots le = omega arith
length-drop-most (suc s) [] le = absurd (omega (arith, le))
length-drop-most (suc s) (x ∷ slots) le = omega (arith, length-drop-most s slots (omega (arith, le)))

-- a slot with a body is one of the page's, which are few
pub live_within : (slots : List Slot) (i : ℕ) (body : List ℕ) → slice_index_or slots i None ≡ Some body → i < length slots
live_within [] i body is = absurd (let e : None ≡ Some body = is in cc)
live_within (s ∷ slots) zero body is = omega arith
live_within (s ∷ slots) (suc i) body is = omega (arith, live_within slots i body is)

pub few_slots : (page : List ℕ) → IsPage page → length (slots_of page) ≤ 65536
few_slots page is = omega (arith, is.fits.room, is.fits.page)

-- ---- pages before and behind one

below_mid : (a p k : ℕ) (front back : List ℕ) → Rises a (front ++ (p ∷ back)) → 1 ≤ times k front → k < p
below_mid a p k [] back rises c = absurd (omega (arith, c))
below_mid a p k (x ∷ front) back rises c = elim (same_or_not k x) [
  | inl same ↦ omega (arith, same, rises_low (x + 1) p front back rises.1)
  | inr differ ↦ below_mid (x + 1) p k front back rises.1 (omega (arith, c, times_apart k x front differ))
]

from_first : (a k : ℕ) (xs : List ℕ) → Rises a xs → 1 ≤ times k xs → a ≤ k
from_first a k [] rises c = absurd (omega (arith, c))
from_first a k (x ∷ xs) rises c = elim (same_or_not k x) [
  | inl same ↦ omega (arith, same, rises.0)
  | inr differ ↦ omega (arith, rises.0, from_first (x + 1) k xs rises.1 (omega (arith, c, times_apart k x xs differ)))
]

above_mid : (a p k : ℕ) (front back : List ℕ) → Rises a (front ++ (p ∷ back)) → 1 ≤ times k back → p < k
above_mid a p k [] back rises c = omega (arith, from_first (p + 1) k back rises.1 c)
above_mid a p k (x ∷ front) back rises c = above_mid (x + 1) p k front back rises.1 c

-- ---- where the list of a file is cut

-- The rows before a slot of a page, those on the page from the slot on, and those of later pages.
pub record PageCut (image : ℕ → List ℕ) (keys : List ℕ) (page slot : ℕ) : Type 0 where
  pub front : List Row
  pub back : List Row
  pub is : flat_map (bodies_on image) keys ≡ front ++ (rows_on page slot (slots_of (image page)) ++ back)
  pub before : AllByRecursion (λ (row : Row). ¬ IsFrom page slot row.0) front
  pub here : AllByRecursion (λ (row : Row). IsFrom page slot row.0) (rows_on page slot (slots_of (image page)))
  pub later : AllByRecursion (λ (row : Row). IsFrom page slot row.0) back
  pub passed : AllByRecursion (λ (row : Row). ¬ IsFrom page 65536 row.0) front
  pub passed_here : AllByRecursion (λ (row : Row). ¬ IsFrom page 65536 row.0) (rows_on page slot (slots_of (image page)))
  pub behind : AllByRecursion (λ (row : Row). IsFrom page 65536 row.0) back

lower_not : (page slot k n : ℕ) → k < page → ¬ IsFrom page slot (place_at k n)
lower_not page slot k n lt h = elim h [
  | inl behind ↦ omega (arith, lt, behind)
  | inr same ↦ omega (arith, lt, same.0)
]

before_not : (page slot n : ℕ) → n < slot → ¬ IsFrom page slot (place_at page n)
before_not page slot n lt h = elim h [
  | inl behind ↦ omega (arith, behind)
  | inr same ↦ omega (arith, lt, same.1)
]

pub page_cut : (image : ℕ → List ℕ) (keys : List ℕ) (page slot : ℕ) → Rises 0 keys → 1 ≤ times page keys → slot < length (slots_of (image page)) → length (slots_of (image page)) ≤ 65536 → PageCut image keys page slot
page_cut image keys page slot rises named inside few =
    let sp = split_at page keys named in
    let risen : Rises 0 (sp.front ++ (page ∷ sp.back)) = subst (Rises 0) sp.is rises in
    let slots : List Slot = slots_of (image page) in
    let fore : List Row = flat_map (bodies_on image) sp.front in
    let start : List Row = bodies_from page 0 (take slot slots) in
    let rest : List Row = flat_map (bodies_on image) sp.back in
    let zero_more : 0 + slot ≡ slot = omega arith in
    let on : bodies_on image page ≡ start ++ rows_on page slot slots = rows_split page 0 slot slots ∙ ap (λ (n : ℕ). start ++ bodies_from page n (drop slot slots)) zero_more in
    let below = λ (k : ℕ) (h : 1 ≤ times k sp.front). below_mid 0 page k sp.front sp.back risen h in
    let above = λ (k : ℕ) (h : 1 ≤ times k sp.back). above_mid 0 page k sp.front sp.back risen h in
    let within : slot + length (drop slot slots) ≡ length slots = length-drop-most slot slots (omega (arith, inside)) in
    let few_before : length (take slot slots) ≤ slot = length-take-most slot slots in
    record {
      front = fore ++ start;
      back = rest;
      is = ap (flat_map (bodies_on image)) sp.is ∙ flat_map-append (bodies_on image) sp.front (page ∷ sp.back)
          ∙ ap (λ (t : List Row). fore ++ (t ++ rest)) on
          ∙ ap (λ (t : List Row). fore ++ t) (append_assoc start (rows_on page slot slots) rest)
          ∙ sym (append_assoc fore start (rows_on page slot slots ++ rest));
      before = each-append (λ (row : Row). ¬ IsFrom page slot row.0) fore start
          (rows_each (λ (row : Row). ¬ IsFrom page slot row.0) image sp.front (λ k h n body there. lower_not page slot k n (below k h)))
          (slots_each (λ (row : Row). ¬ IsFrom page slot row.0) page 0 (take slot slots) (λ n body from to. before_not page slot n (omega (arith, to, few_before))));
      here = slots_each (λ (row : Row). IsFrom page slot row.0) page slot (drop slot slots) (λ n body from to. inr (refl, from));
      later = rows_each (λ (row : Row). IsFrom page slot row.0) image sp.back (λ k h n body there. inl (above k h));
      passed = each-append (λ (row : Row). ¬ IsFrom page 65536 row.0) fore start
          (rows_each (λ (row : Row). ¬ IsFrom page 65536 row.0) image sp.front (λ k h n body there. lower_not page 65536 k n (below k h)))
          (slots_each (λ (row : Row). ¬ IsFrom page 65536 row.0) page 0 (take slot slots) (λ n body from to. before_not page 65536 n (omega (arith, to, few_before, inside, few))));
      passed_here = slots_each (λ (row : Row). ¬ IsFrom page 65536 row.0) page slot (drop slot slots) (λ n body from to. before_not page 65536 n (omega (arith, to, within, few)));
      behind = rows_each (λ (row : Row). IsFrom page 65536 row.0) image sp.back (λ k h n body there. inl (above k h));
    }

each_first : (P : Row → Type 0) (xs ys : List Row) → AllByRecursion P (xs ++ ys) → AllByRecursion P xs
each_first P [] ys h = tt
each_first P (x ∷ xs) ys h = (h.0, each_first P xs ys h.1)

each_rest : (P : Row → Type 0) (xs ys : List Row) → AllByRecursion P (xs ++ ys) → AllByRecursion P ys
each_rest P [] ys h = h
each_rest P (x ∷ xs) ys h = each_rest P xs ys h.1

-- what is true of all rows is true of those on the page
pub on_page : (P : Row → Type 0) (image : ℕ → List ℕ) (keys : List ℕ) (page slot : ℕ) → PageCut image keys page slot → AllByRecursion P (flat_map (bodies_on image) keys) → AllByRecursion P (rows_on page slot (slots_of (image page)))
on_page P image keys page slot cut all =
    each_first P (rows_on page slot (slots_of (image page))) cut.back (each_rest P cut.front (rows_on page slot (slots_of (image page)) ++ cut.back) (subst (AllByRecursion P) cut.is all))

not_before : (a b : Place) → IsBefore a b → ¬ IsFrom b.page.0 b.slot a
not_before a b x h = elim x [
  | inl l ↦ elim h [
    | inl m ↦ omega (arith, l, m)
    | inr m ↦ omega (arith, l, m.0)
  ]
  | inr l ↦ elim h [
    | inl m ↦ omega (arith, l.0, m)
    | inr m ↦ omega (arith, l.1, m.1)
  ]
]

-- the rows on the page of the next row are listed
pub page_listed : {A : Type 0} (of : List Row → List A) → Gathers of → (image : ℕ → List ℕ) (keys : List ℕ) (key slot : ℕ) (items : List A) (place : Place) (first : IsFirstFrom (flat_map (bodies_on image) keys) key slot place)
    → InPlaceOrder (flat_map (bodies_on image) keys) → PageCut image keys place.page.0 place.slot → IsListed of (flat_map (bodies_on image) keys) key slot items
    → IsListed of (flat_map (bodies_on image) keys) place.page.0 65536 (items ++ of (rows_on place.page.0 place.slot (slots_of (image place.page.0))))
page_listed {A = A} of gathers image keys key slot items place first order cut h =
    let row : Row = (place, first.body) in
    let here : List Row = rows_on place.page.0 place.slot (slots_of (image place.page.0)) in
    let one = same_cut key slot h.front h.back first.front row first.back (sym h.is ∙ first.is) h.before h.behind first.passed first.reached in
    let o = subst InPlaceOrder first.is order in
    let two = same_cut place.page.0 place.slot cut.front (here ++ cut.back) first.front row first.back (sym cut.is ∙ first.is) cut.before
    (each-append (λ (r : Row). IsFrom place.page.0 place.slot r.0) here cut.back cut.here cut.later)
    (each_map (λ (r : Row). IsBefore r.0 place) (λ (r : Row). ¬ IsFrom place.page.0 place.slot r.0) first.front (λ r b. not_before r.0 place b) (earlier first.front row first.back o))
    (inr (refl, omega arith)) in
    record {
      front = cut.front ++ here;
      back = cut.back;
      is = cut.is ∙ sym (append_assoc cut.front here cut.back);
      items_are = ap (λ (t : List A). t ++ of here) (h.items_are ∙ ap of (one.fronts ∙ sym two.fronts)) ∙ sym (gathers.append cut.front here);
      before = each-append (λ (r : Row). ¬ IsFrom place.page.0 65536 r.0) cut.front here cut.passed cut.passed_here;
      behind = cut.behind;
    }
