-- What stands at the places of rows.
use Rattle.std.proofs.Common.{◌≡◌, ◌≢◌, ◌≤◌, ◌+◌, ℕ, zero, suc, Bool, true, false, List, [], ◌∷◌, ◌++◌, Some, None, refl, sym, ap, subst, ◌∙◌, arith, inl, inr}
use Rattle.std.specs.Prelude.{if◌then◌else◌, slice_index_or}
use Rattle.std.specs.List.{flat_map, AllByRecursion}
use Rattle.std.proofs.lemmas.Option.{same_Some}
use Rattle.ex_base.specs.declared.ground.Ground as ground
use Rattle.ex_base.specs.declared.names.Place.{Place}
use Rattle.ex_base.specs.Ports.{times}
use Rattle.ex_base.proofs.Counts.{same_or_not, contains_times, times_apart}
use Rattle.slotted_pages.specs.FilePage.{Slot}
use Rattle.slotted_pages.specs.Edits.{slots_of}
use Rattle.ex_base.specs.declared.names.Index.{Index}
use Rattle.file_bodies.specs.Bodies.{Row, IsBefore, InPlaceOrder, EditsRow, place_at, row_of, bodies_from, bodies_on, bodies_of, pages_in}
use Rattle.file_bodies.specs.Files.{HasFile, HasBody}
use Rattle.file_bodies.proofs.Ordered.{ordered}
pub use Rattle.ex_base.proofs.SamePlaces.{same_place_is, at_itself, at_others, place_or_not}
use Rattle.version_tree.specs.Bodies.{same_place, body_at, PlaceChange, changed_at}
use Rattle.versions.proofs.FileRows.{InRows, row_stands}
use Rattle.versions.proofs.RowsListed.{later, earlier, tail_order, back_order, each_map}

-- ---- two places

pub before_differs : (a b : Place) → IsBefore a b → a ≢ b
before_differs a b before same = elim before [
  | inl l ↦ omega (arith, l, ap (λ (p : Place). p.page.0) same)
  | inr l ↦ omega (arith, l.1, ap (λ (p : Place). p.slot) same)
]

-- ---- the body at a place

pub row_at : (rows : List Row) (place : Place) (body : List ℕ) → body_at place rows ≡ Some body → InRows rows (place, body)
row_at [] place body is = absurd cc
row_at (row ∷ rows) place body is = by_test (λ there. row_at rows place body there) (same_place row.0 place) refl is
  where
    by_test : (body_at place rows ≡ Some body → InRows rows (place, body)) → (b : Bool) → same_place row.0 place ≡ b → (if b then Some row.1 else body_at place rows) ≡ Some body → InRows (row ∷ rows) (place, body)
    by_test rest true e there = inl (ap (λ (p : Place). let r : Row = (p, row.1) in r) (same_place_is row.0 place e) ∙ ap (λ (b : List ℕ). let r : Row = (place, b) in r) (same_Some row.1 body there))
    by_test rest false e there = inr (rest there)

pub each_in : (P : Row → Type 0) (rows : List Row) (row : Row) → AllByRecursion P rows → InRows rows row → P row
each_in P [] row all h = absurd h
each_in P (x ∷ rows) row all h = elim h [
  | inl e ↦ subst P e all.0
  | inr r ↦ each_in P rows row all.1 r
]

passed : (row : Row) (rows : List Row) (place : Place) → row.0 ≢ place → body_at place (row ∷ rows) ≡ body_at place rows
passed row rows place differ = ap (λ (b : Bool). if b then Some row.1 else body_at place rows) (at_others row.0 place differ)

here : (row : Row) (rows : List Row) (place : Place) → row.0 ≡ place → body_at place (row ∷ rows) ≡ Some row.1
here row rows place same = ap (λ (b : Bool). if b then Some row.1 else body_at place rows) (at_itself row.0 place same)

pub at_row : (rows : List Row) (place : Place) (body : List ℕ) → InPlaceOrder rows → InRows rows (place, body) → body_at place rows ≡ Some body
at_row [] place body order h = absurd h
at_row (row ∷ rows) place body order h = elim h [
  | inl e ↦ here row rows place (ap (λ (r : Row). r.0) e) ∙ ap (λ (r : Row). Some r.1) e
  | inr r ↦ passed row rows place (before_differs row.0 place (each_in (λ (x : Row). IsBefore row.0 x.0) rows (place, body) (later row rows order) r)) ∙ at_row rows place body (tail_order row rows order) r
]

pub none_at : (rows : List Row) (place : Place) → AllByRecursion (λ (row : Row). row.0 ≢ place) rows → body_at place rows ≡ None
none_at [] place all = refl
none_at (row ∷ rows) place all = passed row rows place all.0 ∙ none_at rows place all.1

-- the body of the first rows, else that of those behind
abbrev or_at : Slot → Slot → Slot
or_at None other = other
or_at (Some body) other = Some body

at_app : (xs ys : List Row) (place : Place) → body_at place (xs ++ ys) ≡ or_at (body_at place xs) (body_at place ys)
at_app [] ys place = refl
at_app (x ∷ xs) ys place = by_test (at_app xs ys place) (same_place x.0 place)
  where
    by_test : body_at place (xs ++ ys) ≡ or_at (body_at place xs) (body_at place ys) → (b : Bool) → (if b then Some x.1 else body_at place (xs ++ ys)) ≡ or_at (if b then Some x.1 else body_at place xs) (body_at place ys)
    by_test rest true = refl
    by_test rest false = rest

at_mid : (front back : List Row) (place : Place) (s : Slot) (other : Place)
    → body_at other (front ++ (row_of place s ++ back)) ≡ or_at (body_at other front) (or_at (body_at other (row_of place s)) (body_at other back))
at_mid front back place s other = at_app front (row_of place s ++ back) other ∙ ap (or_at (body_at other front)) (at_app (row_of place s) back other)

row_here : (place : Place) (s : Slot) → body_at place (row_of place s) ≡ s
row_here place None = refl
row_here place (Some body) = here (place, body) [] place refl

row_off : (place other : Place) (s : Slot) → place ≢ other → body_at other (row_of place s) ≡ None
row_off place other None differ = refl
row_off place other (Some body) differ = passed (place, body) [] other differ

or_none : (s : Slot) → or_at s None ≡ s
or_none None = refl
or_none (Some body) = refl

-- ---- a row that is edited

-- what stands at each place after an edit, where no other row stands at its place
pub edited_at : (old new : List Row) (place : Place) (was is : Slot) (e : EditsRow old new place was is) → body_at place e.front ≡ None → body_at place e.back ≡ None
    → (other : Place) → body_at other new ≡ changed_at ((place, is) ∷ []) other (body_at other old)
edited_at old new place was is e front back other = elim (place_or_not place other) [
  | inl same ↦
      let now : body_at place new ≡ is =
      ap (body_at place) e.after ∙ at_mid e.front e.back place is place ∙ ap (λ (s : Slot). or_at s (or_at (body_at place (row_of place is)) (body_at place e.back))) front
      ∙ ap (λ (s : Slot). or_at (body_at place (row_of place is)) s) back ∙ or_none (body_at place (row_of place is)) ∙ row_here place is in
      subst (λ (p : Place). body_at p new ≡ changed_at ((place, is) ∷ []) p (body_at p old)) same
      (now ∙ sym (ap (λ (b : Bool). if b then is else body_at place old) (at_itself place place refl)))
  | inr differ ↦
      let off = λ (s : Slot). ap (λ (m : Slot). or_at (body_at other e.front) (or_at m (body_at other e.back))) (row_off place other s differ) in
      ap (body_at other) e.after ∙ at_mid e.front e.back place is other ∙ off is
      ∙ sym (ap (λ (b : Bool). if b then is else body_at other old) (at_others place other differ) ∙ ap (body_at other) e.before ∙ at_mid e.front e.back place was other ∙ off was)
]

-- no other row stands at the place of a row in order
apart_front : (front back : List Row) (row : Row) → InPlaceOrder (front ++ (row ∷ back)) → body_at row.0 front ≡ None
apart_front front back row order = none_at front row.0 (each_map (λ (r : Row). IsBefore r.0 row.0) (λ (r : Row). r.0 ≢ row.0) front (λ r b. before_differs r.0 row.0 b) (earlier front row back order))

apart_back : (front back : List Row) (row : Row) → InPlaceOrder (front ++ (row ∷ back)) → body_at row.0 back ≡ None
apart_back front back row order = none_at back row.0 (each_map (λ (r : Row). IsBefore row.0 r.0) (λ (r : Row). r.0 ≢ row.0) back (λ r b e. before_differs row.0 r.0 b (sym e)) (later row back (back_order front row back order)))

pub put_at : (old new : List Row) (place : Place) (was : Slot) (body : List ℕ) → InPlaceOrder new → EditsRow old new place was (Some body)
    → (other : Place) → body_at other new ≡ changed_at ((place, Some body) ∷ []) other (body_at other old)
put_at old new place was body order e =
    let o = subst InPlaceOrder e.after order in
    edited_at old new place was (Some body) e (apart_front e.front e.back (place, body) o) (apart_back e.front e.back (place, body) o)

pub gone_at : (old new : List Row) (place : Place) (body : List ℕ) → InPlaceOrder old → EditsRow old new place (Some body) None
    → (other : Place) → body_at other new ≡ changed_at ((place, None) ∷ []) other (body_at other old)
gone_at old new place body order e =
    let o = subst InPlaceOrder e.before order in
    edited_at old new place (Some body) None e (apart_front e.front e.back (place, body) o) (apart_back e.front e.back (place, body) o)

-- a body that is put where none stood
pub was_vacant : (old new : List Row) (place : Place) (body : List ℕ) → InPlaceOrder new → EditsRow old new place None (Some body) → body_at place old ≡ None
was_vacant old new place body order e =
    let o = subst InPlaceOrder e.after order in
    ap (body_at place) e.before ∙ at_mid e.front e.back place None place ∙ ap (λ (s : Slot). or_at s (or_at None (body_at place e.back))) (apart_front e.front e.back (place, body) o) ∙ apart_back e.front e.back (place, body) o

-- ---- changes of places

pub changed_app : (xs ys : List PlaceChange) (place : Place) (was : Slot) → changed_at (xs ++ ys) place was ≡ changed_at xs place (changed_at ys place was)
changed_app [] ys place was = refl
changed_app (x ∷ xs) ys place was = by_test (changed_app xs ys place was) (same_place x.0 place)
  where
    by_test : changed_at (xs ++ ys) place was ≡ changed_at xs place (changed_at ys place was) → (b : Bool) → (if b then x.1 else changed_at (xs ++ ys) place was) ≡ (if b then x.1 else changed_at xs place (changed_at ys place was))
    by_test rest true = refl
    by_test rest false = rest

-- another place stays
pub unchanged : (place other : Place) (s was : Slot) → place ≢ other → changed_at ((place, s) ∷ []) other was ≡ was
unchanged place other s was differ = ap (λ (b : Bool). if b then s else was) (at_others place other differ)

-- ---- the body at a place of a file

slot_in : (page at k : ℕ) (slots : List Slot) (body : List ℕ) → slice_index_or slots k None ≡ Some body → InRows (bodies_from page at slots) (place_at page (at + k), body)
slot_in page at k [] body is = absurd cc
slot_in page at zero (None ∷ slots) body is = absurd cc
slot_in page at zero (Some held ∷ slots) body is =
    let z : at ≡ at + 0 = omega arith in
    inl (ap (λ (n : ℕ). let r : Row = (place_at page n, held) in r) z ∙ ap (λ (b : List ℕ). let r : Row = (place_at page (at + 0), b) in r) (same_Some held body is))
slot_in page at (suc k) (None ∷ slots) body is = let e : suc at + k ≡ at + suc k = omega arith in subst (λ (n : ℕ). InRows (bodies_from page (suc at) slots) (place_at page n, body)) e (slot_in page (suc at) k slots body is)
slot_in page at (suc k) (Some held ∷ slots) body is = let e : suc at + k ≡ at + suc k = omega arith in inr (subst (λ (n : ℕ). InRows (bodies_from page (suc at) slots) (place_at page n, body)) e (slot_in page (suc at) k slots body is))

in_behind : (xs ys : List Row) (row : Row) → InRows ys row → InRows (xs ++ ys) row
in_behind [] ys row h = h
in_behind (x ∷ xs) ys row h = inr (in_behind xs ys row h)

in_front : (xs ys : List Row) (row : Row) → InRows xs row → InRows (xs ++ ys) row
in_front [] ys row h = absurd h
in_front (x ∷ xs) ys row h = elim h [
  | inl e ↦ inl e
  | inr r ↦ inr (in_front xs ys row r)
]

page_in : (image : ℕ → List ℕ) (page : ℕ) (pages : List ℕ) (row : Row) → 1 ≤ times page pages → InRows (bodies_on image page) row → InRows (flat_map (bodies_on image) pages) row
page_in image page [] row named h = absurd (omega (arith, named))
page_in image page (p ∷ pages) row named h = elim (same_or_not p page) [
  | inl same ↦ in_front (bodies_on image p) (flat_map (bodies_on image) pages) row (subst (λ (q : ℕ). InRows (bodies_on image q) row) (sym same) h)
  | inr differ ↦ in_behind (bodies_on image p) (flat_map (bodies_on image) pages) row (page_in image page pages row (omega (arith, named, times_apart page p pages (λ e. differ (sym e)))) h)
]

module _ {S : Type 0} (g : ground.Ghosts S) where
  pub body_there : (s : S) (index : Index) (place : Place) (body : List ℕ) → HasBody g s index place body → body_at place (bodies_of (g.image s) index) ≡ Some body
  body_there s index place body has =
      let zero_slot : 0 + place.slot ≡ place.slot = omega arith in
      at_row (bodies_of (g.image s) index) place body (ordered g s index has.file)
      (page_in (g.image s) place.page.0 (pages_in (g.image s) index) (place, body) (contains_times place.page.0 (pages_in (g.image s) index) has.named)
      (subst (λ (n : ℕ). InRows (bodies_on (g.image s) place.page.0) (place_at place.page.0 n, body)) zero_slot (slot_in place.page.0 0 place.slot (slots_of (g.image s place.page.0)) body has.stands)))

  pub there_body : (s : S) (index : Index) (place : Place) (body : List ℕ) → HasFile g s index → body_at place (bodies_of (g.image s) index) ≡ Some body → HasBody g s index place body
  there_body s index place body file is = row_stands g s index place body file (row_at (bodies_of (g.image s) index) place body is)
